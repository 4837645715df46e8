use Rattle.std.proofs.Common.{◌≡◌, ◌<◌, length, sym, subst, IfOk, Some, None, arith}
use Rattle.std.proofs.lemmas.Bool.Decides.{nat_tests}
use Rattle.rel_sources.specs.Traces.{Item}
use Rattle.rel_sources.specs.Draws.{item_in}
use Rattle.rel_sources.proofs.Standing.{last-item-is}
use Rattle.rel_sources.proofs.places.last_part.Goals as goal

pub returns-in-Some-clause-item : goal.returns-in-Some-clause-item
returns-in-Some-clause-item c =
    let some : 0 < length c.args.wanted.now = grind (arith, nat_tests) in
    let is = last-item-is c.args.wanted.now c.args.text.now (Some c.in-Some.place) some c.in-Some.ensures.cases in
    subst (λ (i : Item). IfOk c.part_at.result (λ held. item_in held ≡ i)) (sym is) c.part_at.ensures

pub returns-in-None-clause-item : goal.returns-in-None-clause-item
returns-in-None-clause-item c =
    let some : 0 < length c.args.wanted.now = grind (arith, nat_tests) in
    sym (last-item-is c.args.wanted.now c.args.text.now None some c.in-None.ensures.cases)
