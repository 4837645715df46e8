use Rattle.server_text.proofs.Meaning.{means_one}
use Rattle.server_text.proofs.law.one_meaning.Goals as goal

pub returns : goal.returns
returns c =
    means_one c.one_reading.ensures c.one_finding.ensures c.one_plan.ensures c.one_action.ensures c.an_action_is_read_again.ensures c.one_report.ensures c.a_report_is_read_again.ensures.again
