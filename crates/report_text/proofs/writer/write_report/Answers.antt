use Rattle.std.proofs.Common.{ap, arith, length}
use Rattle.report_text.specs.declared.report_row.ReportRow.{ReportRow}
use Rattle.report_text.proofs.SizeLemmas.{room_fits}
use Rattle.report_text.proofs.writer.write_report.Goals as goal

pub fill_report-requires : goal.fill_report-requires
fill_report-requires c =
    room_fits c.args.report.now c.in_ok-room.room (length c.as_slice-rows.result.now) c.requires (ap (length {A = ReportRow}) c.as_slice-rows.ensures) c.in_ok-room.ensures.0 (omega (arith, c.in_ok-room.ensures.1))
