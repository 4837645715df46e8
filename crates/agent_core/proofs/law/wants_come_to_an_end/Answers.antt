use Rattle.agent_core.proofs.Bounded.{agent_bounded}
use Rattle.agent_core.proofs.FewerWants.{agent_wants_fewer}
use Rattle.agent_core.proofs.Wanting.{turn_wanting}
use Rattle.agent_core.proofs.law.wants_come_to_an_end.Goals as goal

pub returns-clause-bounded : goal.returns-clause-bounded
returns-clause-bounded c = agent_bounded

pub returns-clause-wanted : goal.returns-clause-wanted
returns-clause-wanted c = turn_wanting

pub returns-clause-fewer : goal.returns-clause-fewer
returns-clause-fewer c = agent_wants_fewer
