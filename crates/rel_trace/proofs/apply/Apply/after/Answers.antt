use Rattle.rel_trace.proofs.Follows.{given-failed}
use Rattle.rel_trace.proofs.apply.Apply.after.Goals as goal

pub returns-in-Given-clause-failed : goal.returns-in-Given-clause-failed
returns-in-Given-clause-failed c = given-failed c.args.step c.in-Given.value c.at.result c.in-Given.is c.at.ensures.failed

pub returns-in-Given-clause-room : goal.returns-in-Given-clause-room
returns-in-Given-clause-room c = λ r h. c.at.ensures.room r
