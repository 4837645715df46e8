use Rattle.std.proofs.Common.{subst, arith}
use Rattle.std.specs.List.{All}
use Rattle.report_text.specs.Reports.{IsReport}
use Rattle.relay_core.specs.Indexes.{QueueState}
use Rattle.relay_core.proofs.QueueLemmas.{long_name}
use Rattle.relay_core.proofs.report_queue.ReportQueue.queued_key.Goals as goal

pub returns-then-computer-gt-LONGEST_NAME : goal.returns-then-computer-gt-LONGEST_NAME
returns-then-computer-gt-LONGEST_NAME c =
    long_name _ c.args.self.now.queue (subst (λ (s : QueueState). All IsReport s.queue) c.self.view_is c.self.invariant.good) (omega arith)
