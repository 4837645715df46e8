use Rattle.std.proofs.Common.{take}
use Rattle.std.specs.Prelude.{flat_map}
use Rattle.desk_base.specs.Rooms.{Fills}
use Rattle.report_text.specs.Reports.{report_text}
use Rattle.agent_text.proofs.room_writer.fill_reports.Given as goal

-- the reports so far were appended
abbrev pub invariant-loop-report : goal.invariant-loop-report
invariant-loop-report l = Fills l.fn.room l.room (flat_map report_text (take l.report-index l.reports))
