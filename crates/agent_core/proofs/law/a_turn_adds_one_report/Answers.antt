use Rattle.agent_core.proofs.Adding.{adds_one, saves_last}
use Rattle.agent_core.proofs.law.a_turn_adds_one_report.Goals as goal

pub returns-clause-reports : goal.returns-clause-reports
returns-clause-reports c = adds_one

pub returns-clause-saved : goal.returns-clause-saved
returns-clause-saved c = saves_last
