use Rattle.agent_core.proofs.Causes.{turn_came}
use Rattle.agent_core.proofs.StillTelling.{turn_tells}
use Rattle.agent_core.proofs.law.devices_go_on_telling.Goals as goal

pub returns-clause-tells : goal.returns-clause-tells
returns-clause-tells c = λ at s s2 d d2 answer tells turn none fault memory.
    turn_tells c.one_plan.ensures c.one_verdict.ensures at s d answer s2 d2 tells turn none fault memory

pub returns-clause-cause : goal.returns-clause-cause
returns-clause-cause c = λ at s s2 d d2 answer turn. (turn_came at s s2 d d2 answer turn).cause
