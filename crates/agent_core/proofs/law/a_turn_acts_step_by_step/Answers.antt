use Rattle.agent_core.proofs.MachineSteps.{turn_stepped}
use Rattle.agent_core.proofs.law.a_turn_acts_step_by_step.Goals as goal

pub returns : goal.returns
returns c = turn_stepped
