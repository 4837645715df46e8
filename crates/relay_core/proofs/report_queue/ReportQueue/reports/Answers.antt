use Rattle.std.proofs.Common.{sym, subst}
use Rattle.relay_core.specs.ReportKeys.{HasDistinctKeys}
use Rattle.relay_core.specs.Queues.{queue_of}
use Rattle.relay_core.proofs.QueueLemmas.{queue_distinct}
use Rattle.relay_core.proofs.report_queue.ReportQueue.reports.Goals as goal

pub returns-clause-distinct : goal.returns-clause-distinct
returns-clause-distinct c =
    subst HasDistinctKeys (sym c.as_slice.ensures.value) (queue_distinct (queue_of c.self.inside) c.self.invariant.distinct)
