use Rattle.report_text.specs.RowLines.{row_line}
use Rattle.report_text.specs.Reports.{CanFollow}
use Rattle.line_forms.proofs.Sequences.{taken_all, taken_more}
use Rattle.report_text.proofs.reader.take_rows.Goals as goal

pub loop-row-preserved : goal.loop-row-preserved
loop-row-preserved c =
    let taken = taken_more (CanFollow c.args.form) (row_line c.args.form) c.args.lines.now c.loop-row.lines c.take_row.new.lines c.loop-row.rows.items c.as_slice.result.now c.push.new.self.items c.in-Some.row
    c.loop-row.invariant.each c.loop-row.invariant.passes c.as_slice.ensures.value c.in_ok-push.ensures.items c.in-Some.ensures.0 c.in-Some.ensures.1 in
    record { each = taken.0; passes = taken.1 }

pub returns : goal.returns
returns c =
    taken_all (CanFollow c.args.form) (row_line c.args.form) c.args.lines.now c.loop-row.lines c.take_row.new.lines c.loop-row.rows.items c.as_slice.result.now c.from_vec.result
    c.loop-row.invariant.each c.loop-row.invariant.passes c.as_slice.ensures.value c.from_vec.ensures c.in_default.ensures.0 c.in_default.ensures.1
