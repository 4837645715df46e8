use Rattle.std.proofs.Common.{ℕ, Option, refl, sym, subst, arith}
use Rattle.std.proofs.lemmas.Bool.{iff_false}
use Rattle.line_forms.specs.BadLines.{AnswersBadLine}
use Rattle.line_forms.specs.LineStates.{LineState}
use Rattle.line_forms.specs.Readers.{IsStuck, Passes, ReadsPart}
use Rattle.line_forms.proofs.Passing.{left_answers, stuck_answers}
use Rattle.report_text.specs.declared.report.Report.{Report}
use Rattle.report_text.specs.Reports.{AreReportLines, IsReport, report_lines}
use Rattle.report_text.proofs.ReportParts.{never_goes_on}
use Rattle.report_text.proofs.reader.read_report.Goals as goal

pub returns-in-None : goal.returns-in-None
returns-in-None c =
    let P : Option Report → Type 0 = λ o. ReadsPart IsReport report_lines c.new-lines.result c.take_report.new.lines o in
    let Q : LineState → Type 0 = λ s. IsStuck AreReportLines s c.take_report.new.lines in
    let N : ℕ → Type 0 = λ n. AnswersBadLine AreReportLines c.args.text.now n in
    let stuck = subst Q c.new-lines.ensures (subst P c.in-None.is c.in_ok-report.ensures) in
    (omega arith, subst N (sym c.number-line.ensures) (stuck_answers AreReportLines c.args.text.now c.take_report.new.lines stuck))

pub returns-then-not-is_over : goal.returns-then-not-is_over
returns-then-not-is_over c =
    let P : Option Report → Type 0 = λ o. ReadsPart IsReport report_lines c.new-lines.result c.take_report.new.lines o in
    let Q : LineState → Type 0 = λ s. IsReport c.in-Some.report × Passes s c.take_report.new.lines (report_lines c.in-Some.report) in
    let N : ℕ → Type 0 = λ n. AnswersBadLine AreReportLines c.args.text.now n in
    let read = subst Q c.new-lines.ensures (subst P c.in-Some.is c.in_ok-report.ensures) in (
      omega arith,
      subst N (sym c.number-line.ensures) (left_answers AreReportLines c.args.text.now (report_lines c.in-Some.report) c.take_report.new.lines read.1
          (c.in-Some.report, read.0, refl) (never_goes_on c.in-Some.report read.0) (iff_false c.is_over.ensures c.if-not-is_over.true)),
    )

pub returns : goal.returns
returns c =
    let P : Option Report → Type 0 = λ o. ReadsPart IsReport report_lines c.new-lines.result c.take_report.new.lines o in
    let Q : LineState → Type 0 = λ s. IsReport c.in-Some.report × Passes s c.take_report.new.lines (report_lines c.in-Some.report) in
    let read = subst Q c.new-lines.ensures (subst P c.in-Some.is c.in_ok-report.ensures) in (
      omega arith,
      read.0,
      c.a_cursor_stands_behind_its_lines.ensures.whole c.args.text.now (report_lines c.in-Some.report) c.take_report.new.lines read.1 (c.is_over.ensures.0 c.if-not-is_over.false),
    )
