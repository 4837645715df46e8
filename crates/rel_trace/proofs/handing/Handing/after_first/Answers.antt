-- The second part begins as its kind does.
use Rattle.rel_trace.proofs.Follows.{given-failed}
use Rattle.rel_trace.proofs.handing.Handing.after_first.Goals as goal

pub returns-in-Given-clause-failed : goal.returns-in-Given-clause-failed
returns-in-Given-clause-failed c = rw c.beginning.ensures (given-failed c.args.step c.in-Given.value c.opening.result c.in-Given.is c.opening.ensures.failed)

pub returns-in-Given-clause-room : goal.returns-in-Given-clause-room
returns-in-Given-clause-room c = λ r h. rw c.beginning.ensures (c.opening.ensures.room r)

pub returns-in-Given-clause-memory : goal.returns-in-Given-clause-memory
returns-in-Given-clause-memory c = λ e. absurd (c.opening.ensures.memory (rw c.beginning.ensures at e))
