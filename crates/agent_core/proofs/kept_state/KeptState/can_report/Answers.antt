use Rattle.std.proofs.Common.{◌≡◌, ◌<◌, length, rules, ap, ◌∙◌, arith}
use Rattle.std.proofs.lemmas.Iterator.{YieldsList-from_slice}
use Rattle.std.proofs.lemmas.Iterator.Search.{any_from_yields_List}
use borrow.Author.Tests.{tests}
use Rattle.agent_text.specs.declared.history.History.{History}
use Rattle.report_text.specs.declared.report.Report.{Report}
use Rattle.agent_core.specs.Inside.{state_of}
use Rattle.agent_core.proofs.Reporting.{can_any}
use Rattle.agent_core.proofs.kept_state.KeptState.can_report.Goals as goal

pub returns : goal.returns
returns c =
    let items = c.as_slice.result.now in
    let count : length c.all.result.now ≡ length c.args.self.now.outbox.reports = ap (length {A = Report}) c.all.ensures in
    let few : length c.args.self.now.outbox.reports < 1000 = omega arith in
    any_from_yields_List (λ (h : History). h.pending) _ _ c.any.result c.any.ensures.ran (YieldsList-from_slice items (cc)) (λ x b q k. search (rules, tests))
    ∙ can_any items (state_of c.args.self.now) c.as_slice.ensures.value few c.if-self-ge-LAST_ID.false c.as_slice.ensures.good.good
