use Rattle.std.proofs.Common.{◌≡◌, ℕ, ℤ, List, Some, None, FitsSigned, to_z, of_z, w64, sym, ap, ◌∙◌, arith, rules}
use Rattle.std.proofs.lemmas.Int.{ints}
use Rattle.std.specs.Str.Lines.{lines}
use Rattle.rel_inspect.specs.declared.once.Sought.{Sought}
use Rattle.rel_sources.specs.Traces.{text_item}
use Rattle.rel_sources.specs.Rows.{numbered}
use Rattle.rel_inspect.specs.Facets.{sought_item}
use Rattle.rel_sources.proofs.LineParts.{line-item}
use Rattle.rel_inspect.proofs.once.Sought.find.Goals as goal

pub returns-in_ok-readable-in-Some-numbered_line-clause-item : goal.returns-in_ok-readable-in-Some-numbered_line-clause-item
returns-in_ok-readable-in-Some-numbered_line-clause-item c =
    let n = c.in-LineAt.number in
    let fits : FitsSigned w64 n = search rules in
    let same : to_z w64 (of_z w64 n) ≡ n = omega (arith, ints) in
    let there = c.in-Some-numbered_line.ensures ∙ ap (λ (z : ℤ). numbered z (lines c.as_slice.result.now)) same ∙ ap (λ (b : List ℕ). numbered n (lines b)) c.as_slice.ensures in
    c.text-in-Some-numbered_line.ensures.item
    ∙ ap text_item c.in_ok-readable-in-Some-numbered_line.ensures
    ∙ sym (ap (λ (x : Sought). sought_item x c.args.scene.now) c.in-LineAt.is ∙ line-item c.in-LineAt.number c.in-LineAt.content (Some c.in-Some-numbered_line.line.now) there)

pub returns-in-None-numbered_line-clause-item : goal.returns-in-None-numbered_line-clause-item
returns-in-None-numbered_line-clause-item c =
    let n = c.in-LineAt.number in
    let fits : FitsSigned w64 n = search rules in
    let same : to_z w64 (of_z w64 n) ≡ n = omega (arith, ints) in
    let there = c.in-None-numbered_line.ensures ∙ ap (λ (z : ℤ). numbered z (lines c.as_slice.result.now)) same ∙ ap (λ (b : List ℕ). numbered n (lines b)) c.as_slice.ensures in
    sym (ap (λ (x : Sought). sought_item x c.args.scene.now) c.in-LineAt.is ∙ line-item c.in-LineAt.number c.in-LineAt.content None there)
