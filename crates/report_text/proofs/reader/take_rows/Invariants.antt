use Rattle.std.proofs.Common.{length}
use Rattle.std.specs.Prelude.{map}
use Rattle.line_forms.specs.Readers.{EachCan, Passes}
use Rattle.report_text.specs.RowLines.{row_line}
use Rattle.report_text.specs.Reports.{CanFollow}
use Rattle.report_text.proofs.reader.take_rows.Given as goal

-- the lines of the rows so far were taken
abbrev pub invariant-loop-row : goal.invariant-loop-row
invariant-loop-row l = record {
  each : EachCan (CanFollow l.form) l.rows.items;
  passes : Passes l.initial.lines l.lines (map (row_line l.form) l.rows.items);
}

abbrev pub decreases-loop-row : goal.decreases-loop-row
decreases-loop-row l = length l.lines.lines
