use Rattle.std.proofs.Common.{◌≡◌, ◌++◌, ◌≤◌, take}
use Rattle.report_text.proofs.TextLemmas.{text_before}
use Rattle.report_text.proofs.room_writer.fill_report.Given as goal

-- the text as far as the rows so far, behind what stood there
abbrev pub invariant-loop-row : goal.invariant-loop-row
invariant-loop-row l = record {
  items : l.row-items ≡ l.report.rows;
  text : l.room.bytes ≡ l.fn.room.bytes ++ text_before l.report (take l.row-index l.row-items);
  room : l.fn.room.capacity ≤ l.room.capacity;
}
