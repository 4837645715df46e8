use Rattle.std.proofs.Common.{refl, arith}
use Rattle.std.specs.List.{IsDistinct}
use Rattle.std.proofs.lemmas.List.Elements.{All-nil}
use Rattle.report_text.specs.Reports.{IsReport}
use Rattle.relay_core.proofs.report_queue.ReportQueue.new.Goals as goal

pub invariant_of-result : goal.invariant_of-result
unfolding IsDistinct
invariant_of-result c = record {
  good = rw c.new.ensures.items (All-nil IsReport);
  few = rw c.new-2.ensures.items (omega arith);
  distinct = rw (c.new.ensures.items, c.new-2.ensures.items) tt;
  found = λ key. rw (c.new.ensures.items, c.new-2.ensures.items, c.new-3.ensures.empty) refl;
  room = rw (c.new.ensures.items, c.new-2.ensures.items) (omega arith);
}
