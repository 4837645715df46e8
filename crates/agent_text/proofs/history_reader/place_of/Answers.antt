use Rattle.std.proofs.Common.{rules}
use Rattle.std.specs.Ordering.{nat_cmp}
use Rattle.std.proofs.lemmas.Fn.{always_returns_same}
use Rattle.agent_text.specs.declared.history.History.{History}
use Rattle.agent_text.proofs.PendingPlaces.{finds}
use Rattle.agent_text.proofs.history_reader.place_of.Goals as goal

pub returns : goal.returns
returns c =
    let facts = c.binary_search_by.ensures in
    let by_id = facts.position (λ (h : History). nat_cmp h.action c.args.action) (always_returns_same _ _ _ (λ a r g called. (search rules, search rules))) in
    finds c.args.histories.now c.args.action c.binary_search_by.result c.ok.result c.requires facts.bound by_id c.ok.ensures.value
