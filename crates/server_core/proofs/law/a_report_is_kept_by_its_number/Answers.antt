use Rattle.server_core.proofs.KeptReports.{reports_shown}
use Rattle.server_core.proofs.law.a_report_is_kept_by_its_number.Goals as goal

pub returns : goal.returns
returns c = reports_shown
