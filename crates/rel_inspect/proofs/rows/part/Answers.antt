use Rattle.std.proofs.Common.{◌≡◌, ℤ, map, Some, None, FitsSigned, to_z, of_z, w64, sym, ap, ◌∙◌, rules, arith}
use Rattle.std.proofs.lemmas.Int.{ints}
use Rattle.std.specs.Option.{option_copied}
use Rattle.rel_value.specs.Views.{shown}
use Rattle.rel_sources.specs.Traces.{one}
use Rattle.rel_sources.specs.Rows.{part_numbered}
use Rattle.rel_inspect.proofs.Tuples.{part-there, part-absent, part-row}
use Rattle.rel_inspect.proofs.rows.part.Goals as goal

pub returns-in_ok-copy-in-Some : goal.returns-in_ok-copy-in-Some
returns-in_ok-copy-in-Some c =
    let n = c.in-Some-Some.number in
    let vs = c.in-Some-Some.parts.now in
    let fits : FitsSigned w64 n = search rules in
    let same : to_z w64 (of_z w64 n) ≡ n = omega (arith, ints) in
    let look = c.in-Some.ensures.lookup in
    let there = part-there (to_z w64 (of_z w64 n)) vs c.in-Some.part.now c.if-number-lt0.false look.0 look.1 in
    let row = part-row c.args.number (option_copied c.args.parts) n vs (Some (shown c.in-Some.part.now)) c.in-Some-Some.is-0 (ap option_copied c.in-Some-Some.is-1) (ap (λ (z : ℤ). part_numbered z (map shown vs)) (sym same) ∙ there) in
    (λ w s. c.given.ensures.0 w s ∙ ap one c.in_ok-copy-in-Some.ensures ∙ sym row, c.given.ensures.1)

pub returns-in-None : goal.returns-in-None
returns-in-None c =
    let n = c.in-Some-Some.number in
    let vs = c.in-Some-Some.parts.now in
    let fits : FitsSigned w64 n = search rules in
    let same : to_z w64 (of_z w64 n) ≡ n = omega (arith, ints) in
    let look = c.in-None.ensures.lookup in
    let there = part-absent (to_z w64 (of_z w64 n)) vs c.if-number-lt0.false look.0 in
    let row = part-row c.args.number (option_copied c.args.parts) n vs None c.in-Some-Some.is-0 (ap option_copied c.in-Some-Some.is-1) (ap (λ (z : ℤ). part_numbered z (map shown vs)) (sym same) ∙ there) in
    (λ w s. c.nothing-in-None.ensures.0 w s ∙ sym row, c.nothing-in-None.ensures.1)
