use Rattle.report_text.proofs.SizeLemmas.{fields_length, report_room}
use Rattle.report_text.proofs.law.reports_are_short.Goals as goal

pub returns-clause-row : goal.returns-clause-row
returns-clause-row c = fields_length

pub returns-clause-report : goal.returns-clause-report
returns-clause-report c = report_room
