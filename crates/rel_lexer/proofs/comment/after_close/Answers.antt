use Rattle.std.proofs.Common.{Some, None}
use Rattle.rel_lexer.proofs.Closing.{later, here, nowhere}
use Rattle.rel_lexer.proofs.comment.after_close.Goals as goal

pub returns-in-Some-closed_by : goal.returns-in-Some-closed_by
returns-in-Some-closed_by c = let h = c.in-Some-closed_by.ensures in c.loop-first.invariant (Some c.in-Some-closed_by.left.now) (here c.loop-first.rest.now c.in-Some.first.now c.in-Some.more.now c.in-Some-closed_by.left.now c.in-Some.ensures.cases.0 h.0 h.1)

pub loop-first-preserved : goal.loop-first-preserved
loop-first-preserved c = λ answer h. c.loop-first.invariant answer (rw c.in-Some.ensures.cases.0 (later c.in-Some.first.now c.in-Some.more.now c.in-None.ensures answer h))

pub returns : goal.returns
returns c = c.loop-first.invariant None (nowhere c.loop-first.rest.now c.in_default.ensures.cases)
