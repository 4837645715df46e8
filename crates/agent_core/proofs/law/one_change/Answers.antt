use Rattle.agent_core.specs.Agents.{shown_state}
use Rattle.agent_core.proofs.OneChange.{gathers_once, opens_once, settles_once, state_once}
use Rattle.agent_core.proofs.law.one_change.Goals as goal

pub returns-clause-settled : goal.returns-clause-settled
returns-clause-settled c = λ seq verdict s s2 s3 answer other p q. settles_once seq verdict s s2 s3 answer other p q

pub returns-clause-gathered : goal.returns-clause-gathered
returns-clause-gathered c = λ site s s2 s3 answer other p q ample ample'. gathers_once site s s2 s3 answer other p q ample ample'

pub returns-clause-supplied : goal.returns-clause-supplied
returns-clause-supplied c = λ digest bytes s s2 s3 answer other p q. state_once s s2 s3 digest bytes answer other p q

pub returns-clause-opened : goal.returns-clause-opened
returns-clause-opened c = λ computer told agent other some p q.
    opens_once c.one_saved.ensures c.lines_are_read_again.ensures.lines computer told (shown_state agent) (shown_state other) p.0 q.0 some p.1 p.2 q.1 q.2
