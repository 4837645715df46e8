use Rattle.std.proofs.Common.{ℕ, ◌<◌, List, length, arith, refl}
use Rattle.std.specs.Prelude.{flat_map}
use Rattle.report_text.specs.declared.report.Report.{Report}
use Rattle.report_text.specs.Reports.{report_text}
use Rattle.agent_text.proofs.FillLemmas.{room_item}
use Rattle.agent_text.proofs.room_writer.fill_reports.Goals as goal

abbrev text : Report → List ℕ
text x = report_text x

pub fill_report-requires : goal.fill_report-requires
fill_report-requires c =
    let items : List Report = c.args.reports.now in
    let inside : c.loop-report.report-index < length items = search (arith, c.loop-report-test.true) in
    room_item text items (flat_map report_text items) c.loop-report.report-index c.report-item.result c.args.room.now c.loop-report.room (refl) inside c.report-item.is c.requires c.loop-report.invariant
