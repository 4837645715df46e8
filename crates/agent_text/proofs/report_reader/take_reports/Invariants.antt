use Rattle.std.proofs.Common.{length}
use Rattle.agent_text.specs.PartReadings.{HasReports, around_of}
use Rattle.agent_text.proofs.report_reader.take_reports.Given as goal

-- the lines of the reports so far were taken
abbrev pub invariant-loop-reports : goal.invariant-loop-reports
invariant-loop-reports l = record { taken : HasReports (around_of l.frame) l.initial.lines l.lines l.reports.items }

abbrev pub decreases-loop-reports : goal.decreases-loop-reports
decreases-loop-reports l = length l.lines.lines
