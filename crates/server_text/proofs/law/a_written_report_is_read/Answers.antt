use Rattle.server_text.proofs.ReadAgain.{written_asks, written_read}
use Rattle.server_text.proofs.law.a_written_report_is_read.Goals as goal

pub returns-clause-asked : goal.returns-clause-asked
returns-clause-asked c = written_asks c.a_report_is_read_again.ensures.short

pub returns-clause-only : goal.returns-clause-only
returns-clause-only c = written_read c.a_report_is_read_again.ensures.again c.one_report.ensures
