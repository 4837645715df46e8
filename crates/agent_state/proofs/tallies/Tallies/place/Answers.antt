use Rattle.std.proofs.Common.{rules, subst}
use Rattle.std.specs.Ordering.{nat_cmp}
use Rattle.std.proofs.lemmas.Fn.{always_returns_same}
use Rattle.agent_state.specs.declared.tallies.ActionTally.{ActionTally}
use Rattle.agent_state.specs.Lookups.{PlacesTally}
use Rattle.line_forms.proofs.Rising.{rises_from_increasing}
use Rattle.agent_state.proofs.TallyLists.{id_of, places_tally}
use Rattle.agent_state.proofs.tallies.Tallies.place.Goals as goal

pub returns : goal.returns
returns c =
    let facts = c.binary_search_by.ensures in
    let by_id = facts.position (λ (t : ActionTally). nat_cmp t.action c.args.action) (always_returns_same _ _ _ (λ a r g called. (search rules, search rules))) in
    subst (λ l. PlacesTally c.args.action l c.binary_search_by.result) c.self.view_is
    (places_tally c.args.action c.self.inside.list.items c.binary_search_by.result (rises_from_increasing id_of c.self.inside.list.items c.self.invariant)
    (rw (← c.as_slice.ensures.value) facts.bound) (rw (← c.as_slice.ensures.value) by_id))
