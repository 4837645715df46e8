use Rattle.std.proofs.Common.{Ok, Option, subst}
use Rattle.report_text.specs.declared.report.Report.{Report}
use Rattle.agent_text.specs.PartReadings.{TakesReport, around_of}
use Rattle.agent_text.proofs.ReportLists.{has_more}
use Rattle.agent_text.proofs.report_reader.take_reports.Goals as goal

pub loop-reports-preserved : goal.loop-reports-preserved
loop-reports-preserved c =
    let T : Option Report → Type 0 = λ o. TakesReport (around_of c.args.frame) c.as_slice.result.now c.loop-reports.lines c.take_report.new.lines (Ok o) in
    let taken = subst T c.in-Some.is c.in_ok-report.ensures in
    record {
      taken = has_more (around_of c.args.frame) c.args.lines.now c.loop-reports.lines c.take_report.new.lines c.loop-reports.reports.items c.as_slice.result.now c.add.new.list.items c.in-Some.report
          c.loop-reports.invariant.taken c.as_slice.ensures.value c.in_ok-add.ensures.ok taken.0 taken.1;
    }
