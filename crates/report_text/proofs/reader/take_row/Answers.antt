use Rattle.std.proofs.Common.{refl, arith}
use Rattle.std.proofs.lemmas.Bool.{iff_false}
use Rattle.line_forms.proofs.Passing.{other_ahead, takes_it}
use Rattle.report_text.specs.RowLines.{row_line}
use Rattle.report_text.specs.Reports.{CanFollow}
use Rattle.report_text.proofs.RowLemmas.{row_one}
use Rattle.report_text.proofs.reader.take_row.Goals as goal

pub returns-then-not-is_above : goal.returns-then-not-is_above
returns-then-not-is_above c = (
  refl,
  other_ahead (CanFollow c.args.form c.args.rows.now) (row_line c.args.form) c.args.lines.now c.in_ok-line_ahead.field-0.now c.in_ok-line_ahead.ensures.0 c.in_ok-row.row
      (λ row can e. row_one c.args.form row c.in_ok-row.row can.good c.in_ok-row.ensures.0 e) c.in_ok-line_ahead.ensures.1 c.in_ok-row.ensures.1
      (λ fits. iff_false c.is_above.ensures c.if-not-is_above.true fits.above),
)

pub returns : goal.returns
returns c = (
  record { few = omega arith; good = c.in_ok-row.ensures.0; above = c.is_above.ensures.0 c.if-not-is_above.false },
  takes_it (row_line c.args.form) c.args.lines.now c.skip_line.new.self c.in_ok-line_ahead.field-0.now c.in_ok-line_ahead.ensures.0 c.in_ok-row.row c.in_ok-line_ahead.ensures.1 c.in_ok-row.ensures.1 c.skip_line.ensures,
)
