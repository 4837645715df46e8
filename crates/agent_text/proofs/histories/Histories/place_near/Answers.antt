use Rattle.std.proofs.Common.{Some, subst}
use Rattle.std.specs.Slice.{IsItemAt}
use Rattle.agent_text.specs.Histories.{AreHistories}
use Rattle.agent_text.proofs.ItemLemmas.{found_item}
use Rattle.agent_text.proofs.histories.Histories.place_near.Goals as goal

pub returns : goal.returns
returns c =
    let item = subst (λ items. IsItemAt items c.args.place (Some c.in-Some.history)) c.as_slice.ensures.value c.in-Some.ensures.lookup in
    found_item c.self.inside.list.items c.args.self.now c.self.view_is c.args.action c.args.place c.in-Some.history.now
    (subst AreHistories c.self.view_is c.self.invariant.are) item.3.0 item.1 c.if-history-action.true
