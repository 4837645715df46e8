use Rattle.std.proofs.Common.{◌≡◌, List, ap, ◌∙◌, get_or, subst}
use Rattle.report_text.specs.declared.report.Report.{Report}
use Rattle.relay_core.specs.ReportKeys.{HasDistinctKeys, ReportKey, key_of}
use Rattle.relay_core.specs.Relays.{RelayState}
use Rattle.desk_rounds.proofs.Queues.{held_there, limit_sent}
use Rattle.desk_rounds.proofs.client.held_at.Goals as goal

pub returns : goal.returns
returns c =
    let there = c.index-queue-place.result in
    let key : ReportKey = record { computer = c.in_ok-computer.computer; seq = there.seq } in
    let is : key ≡ key_of there = λ i. record { computer = c.in_ok-computer.ensures i; seq = there.seq } in
    let at = subst (λ (l : List Report). there ≡ get_or l c.args.place there) c.queue.ensures.queue c.index-queue-place.is in
    record {
      holds = held_there c.args.relay.now c.sent.new.self c.args.held.now c.args.place there key _
          (subst HasDistinctKeys c.queue.ensures.queue c.queue.ensures.distinct) at is c.sent.ensures.after;
      limit = ap (λ (s : RelayState). s.limit) c.sent.ensures.after ∙ limit_sent c.args.relay.now key c.args.held.now;
    }
