use Rattle.std.proofs.Common.{List, [], ◌∷◌, ℕ, subst}
use Rattle.line_forms.specs.Readers.{Passes}
use Rattle.office_text.proofs.content_reader.take_content_line.Goals as goal

pub returns : goal.returns
returns c =
    let P : List ℕ → Type 0 = λ l. Passes c.args.lines.now c.skip_line.new.self (l ∷ []) in
    (c.in_ok-line.ensures.0.0, subst P c.in_ok-line.ensures.0.1 (c.skip_line.ensures c.in_ok-line_ahead.field-0.now c.in_ok-line_ahead.ensures.0 c.in_ok-line_ahead.ensures.1))
