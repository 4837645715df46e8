use Rattle.server_core.proofs.KeptReports.{computers_shown}
use Rattle.server_core.proofs.law.a_computer_is_kept_that_reported.Goals as goal

pub returns : goal.returns
returns c = computers_shown
