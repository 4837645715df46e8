use Rattle.std.proofs.Common.{◌∷◌, ap, ◌∙◌}
use Rattle.line_forms.proofs.lines.Lines.take_exactly.Goals as goal

pub returns : goal.returns
returns c =
    c.skip_line.ensures c.args.line.now c.in-Some.ensures.0
    (c.in-Some.ensures.1 ∙ ap (λ l. l ∷ c.in-Some.ensures.0) (c.is_same.ensures.0 c.if-not-is_same.false))
