use Rattle.std.proofs.Common.{sym, subst, ◌<◌, length}
use Rattle.agent_text.specs.Histories.{AreHistories, PlainHistory, shown_history}
use Rattle.agent_text.proofs.ItemLemmas.{item_there, rows_of_item}
use Rattle.agent_text.proofs.PlaceLemmas.{no_rows_there}
use Rattle.agent_text.proofs.histories.Histories.rows_near.Goals as goal

pub returns-in-Ok-clause-value : goal.returns-in-Ok-clause-value
returns-in-Ok-clause-value c =
    sym (rows_of_item c.self.inside.list.items c.args.self.now c.self.view_is c.args.action c.in-Ok.place c.index.result.now
    (subst AreHistories c.self.view_is c.self.invariant.are) c.in-Ok.ensures c.index.ensures)

pub returns-in-Ok-clause-some : goal.returns-in-Ok-clause-some
returns-in-Ok-clause-some c =
    let are = subst AreHistories c.self.view_is c.self.invariant.are in
    let shown = shown_history c.index.result.now in
    let there = item_there c.self.inside.list.items c.args.self.now c.self.view_is c.in-Ok.place c.in-Ok.ensures.0 c.index.result.now c.index.ensures in
    subst (λ (h : PlainHistory). 0 < length h.rows) there (are.good c.in-Ok.place shown c.in-Ok.ensures.0).rows.some

pub returns-in-Err-clause-value : goal.returns-in-Err-clause-value
returns-in-Err-clause-value c = no_rows_there c.args.self.now c.args.action _ c.in-Err.ensures
