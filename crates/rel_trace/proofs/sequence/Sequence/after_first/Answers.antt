-- The right side of `and` and `or` begins with less than the left had left.
use Rattle.rel_trace.proofs.Measures.{logical-falls}
use Rattle.rel_trace.proofs.sequence.Sequence.after_first.Goals as goal

pub returns-else-decides-clause-falls : goal.returns-else-decides-clause-falls
returns-else-decides-clause-falls c = λ q q' r n h.
    rw c.beginning-else-decides.ensures (logical-falls c.args.self.now.order c.in-Logical.logic c.args.self.now.on_second c.in-Given.value c.args.step q q' r n c.in-Logical.is c.requires c.in-Given.is h)
