use Rattle.site_check.proofs.OneFinding.{one_found}
use Rattle.site_check.proofs.law.one_finding.Goals as goal

pub returns : goal.returns
returns c = one_found c.one_reading.ensures c.one_plan.ensures c.one_verdict.ensures
