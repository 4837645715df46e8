use Rattle.std.proofs.Common.{◌≡◌, take}
use Rattle.std.specs.Prelude.{map}
use Rattle.report_text.specs.declared.report.Report.{Report}
use Rattle.office_play.proofs.office.Office.shown_numbers.Given as goal

-- the numbers of the reports so far
abbrev pub invariant-loop-report : goal.invariant-loop-report
invariant-loop-report l = l.numbers.items ≡ map (λ (report : Report). report.seq) (take l.report-index l.report-items)
