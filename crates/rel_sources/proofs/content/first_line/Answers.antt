use Rattle.std.proofs.Common.{List, ℕ, ◌∷◌, sym, ap, ◌∙◌}
use Rattle.std.specs.Str.Lines.{lines}
use Rattle.rel_sources.proofs.LineParts.{lines-cut, lines-last, cut-rest, drop-all}
use Rattle.rel_sources.proofs.content.first_line.Goals as goal

pub returns-in-Some-clause-lines : goal.returns-in-Some-clause-lines
returns-in-Some-clause-lines c =
    let text = c.args.content.now in
    let first = c.in-Some.cut.first.now in
    let rest = c.in-Some.cut.rest.now in
    lines-cut text first rest c.in-Some.ensures
    ∙ ap (λ (l : List ℕ). l ∷ lines rest) (sym c.without_return.ensures)
    ∙ ap (λ (r : List ℕ). c.without_return.result.now ∷ lines r) (sym (cut-rest text first rest c.in-Some.ensures))

pub returns-in-None-clause-lines : goal.returns-in-None-clause-lines
returns-in-None-clause-lines c =
    let text = c.args.content.now in
    lines-last text c.in-None.ensures c.requires ∙ ap (λ (r : List ℕ). text ∷ lines r) (sym (drop-all text))
