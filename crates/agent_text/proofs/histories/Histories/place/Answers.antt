use Rattle.std.proofs.Common.{rules, subst}
use Rattle.std.specs.Ordering.{nat_cmp}
use Rattle.std.proofs.lemmas.Fn.{always_returns_same}
use Rattle.agent_text.specs.declared.history.History.{History}
use Rattle.agent_text.specs.Histories.{AreHistories}
use Rattle.agent_text.proofs.ItemLemmas.{searched_items}
use Rattle.agent_text.proofs.histories.Histories.place.Goals as goal

pub returns : goal.returns
returns c =
    let facts = c.binary_search_by.ensures in
    let by_id = facts.position (λ (h : History). nat_cmp h.action c.args.action) (always_returns_same _ _ _ (λ a r g called. (search rules, search rules))) in
    searched_items c.self.inside.list.items c.args.self.now c.self.view_is c.args.action c.binary_search_by.result
    (subst AreHistories c.self.view_is c.self.invariant.are) (rw (← c.as_slice.ensures.value) facts.bound) (rw (← c.as_slice.ensures.value) by_id)
