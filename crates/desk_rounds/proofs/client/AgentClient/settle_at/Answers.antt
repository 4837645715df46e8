use Rattle.std.proofs.Common.{◌≡◌, ◌∙◌, List, ap, get_or, subst, sym}
use Rattle.report_text.specs.declared.report.Report.{Report}
use Rattle.agent_core.specs.Agents.{shown_state}
use Rattle.desk_rounds.proofs.Agents.{stored_there}
use Rattle.desk_rounds.proofs.client.AgentClient.settle_at.Goals as goal

pub returns-clause-settles : goal.returns-clause-settles
returns-clause-settles c =
    let there = c.index-outbox-place.result in
    let seq = (get_or c.outbox.result.now c.args.place there).seq in
    let number : seq ≡ there.seq = ap (λ (r : Report). r.seq) (sym c.index-outbox-place.is) in
    let at = subst (λ (l : List Report). there ≡ get_or l c.args.place there) c.outbox.ensures c.index-outbox-place.is in
    stored_there (shown_state c.args.self.now) (shown_state c.settle-dropped.new.self) c.args.place seq there c.args.judged.now c.settle-dropped.result
    c.requires.sound at number (sym c.is_stored.ensures ∙ c.if-not-is_stored.false) c.settle-dropped.ensures
