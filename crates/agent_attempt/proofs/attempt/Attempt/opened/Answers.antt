use Rattle.agent_attempt.proofs.Runs.{opens_run}
use Rattle.agent_attempt.proofs.attempt.Attempt.opened.Goals as goal

pub returns-clause-opens : goal.returns-clause-opens
returns-clause-opens c = opens_run _ _ _ c.in_ok-script.script c.open.result c.in_ok-script.ensures c.in_ok-parameters.ensures c.open.ensures.stands
