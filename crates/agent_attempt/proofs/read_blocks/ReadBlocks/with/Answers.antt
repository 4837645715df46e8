use Rattle.std.proofs.Common.{◌≡◌, sym, subst, length, arith}
use Rattle.agent_attempt.specs.BlockPlaces.{ArePlaces, AddsPlace}
use Rattle.agent_attempt.proofs.Places.{places_more}
use Rattle.agent_attempt.proofs.read_blocks.ReadBlocks.with.Goals as goal

pub invariant_of-result : goal.invariant_of-result
invariant_of-result c =
    let old = c.self.inside.places in
    let new = c.in_ok-places.places in
    let blocks = c.self.inside.blocks.items in
    let many : c.len.result ≡ length blocks = omega (arith, c.self.inside.blocks.ok.0) in
    let adds : AddsPlace old c.id.result (length blocks) new = subst (λ n. AddsPlace old c.id.result n new) many c.in_ok-places.ensures in
    subst (ArePlaces new) (sym c.in_ok-push.ensures.items)
    (places_more old new blocks c.args.block c.self.invariant (subst (λ id. AddsPlace old id (length blocks) new) c.id.ensures adds))
