use Rattle.agent_core.proofs.OneTurn.{turn_once}
use Rattle.agent_core.proofs.law.one_turn.Goals as goal

pub returns : goal.returns
returns c = turn_once c.one_plan.ensures c.one_verdict.ensures
