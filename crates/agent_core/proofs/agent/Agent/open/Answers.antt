use Rattle.agent_core.proofs.OverCalls.{opens_lawful}
use Rattle.agent_core.proofs.agent.Agent.open.Goals as goal

pub returns-clause-lawful : goal.returns-clause-lawful
returns-clause-lawful g c = λ table some lawful. opens_lawful table c.args.name.now _ c.load.result _ c.load.ensures some lawful
