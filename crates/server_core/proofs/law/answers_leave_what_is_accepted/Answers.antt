use Rattle.server_core.proofs.Holding.{answer_accepted, answers_accepted}
use Rattle.server_core.proofs.law.answers_leave_what_is_accepted.Goals as goal

pub returns-clause-one : goal.returns-clause-one
returns-clause-one c = λ limits accepted later request answered are h. answer_accepted limits accepted later request answered are h

pub returns-clause-all : goal.returns-clause-all
returns-clause-all c = λ limits accepted last requests replies are h. answers_accepted limits accepted last requests replies are h
