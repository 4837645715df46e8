use Rattle.desk_top.proofs.Ends.{checked_ends}
use Rattle.desk_top.proofs.checks.check_input.Goals as goal

pub returns-in-Ok-clause-ends : goal.returns-in-Ok-clause-ends
returns-in-Ok-clause-ends g c =
    checked_ends c.one_finding.ensures c.args.input.now c.check_site-finding.result c.in-Some.status _ _ _ c.check_site-finding.ensures c.in-Some.ensures c.in-Ok.ensures.written
