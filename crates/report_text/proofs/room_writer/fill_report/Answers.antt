use Rattle.std.proofs.Common.{◌<◌, ◌≤◌, ◌++◌, ap, sym, ◌∙◌, List, length, arith, append-nil}
use Rattle.report_text.specs.declared.report_row.ReportRow.{ReportRow}
use Rattle.report_text.specs.Writings.{head_text}
use Rattle.report_text.proofs.RoomLemmas.{all_rows, more_text, room_end, room_row, whole_text}
use Rattle.report_text.proofs.room_writer.fill_report.Goals as goal

pub loop-row-init : goal.loop-row-init
loop-row-init c = record {
  items = c.as_slice-row-items.ensures;
  text = c.fill_head.ensures.0 ∙ ap (λ l. c.args.room.now.bytes ++ l) (sym (append-nil (head_text c.args.report.now)));
  room = c.fill_head.ensures.1;
}

pub fill_row-requires : goal.fill_row-requires
fill_row-requires c =
    let rows : List ReportRow = c.as_slice-row-items.result.now in
    let inside : c.loop-row.row-index < length rows = search (arith, c.loop-row-test.true) in
    room_row c.args.report.now rows c.loop-row.row-index _ c.args.room.now c.loop-row.room c.loop-row.invariant.items inside c.requires c.loop-row.invariant.text c.loop-row.invariant.room

pub loop-row-preserved : goal.loop-row-preserved
loop-row-preserved c =
    let rows : List ReportRow = c.as_slice-row-items.result.now in
    let inside : c.loop-row.row-index < length rows = search (arith, c.loop-row-test.true) in
    record {
      items = c.loop-row.invariant.items;
      text = more_text c.args.report.now rows c.loop-row.row-index _ c.args.room.now.bytes c.loop-row.room.bytes c.fill_row.new.room.bytes inside c.loop-row.invariant.text c.fill_row.ensures.0;
      room = omega (arith, c.loop-row.invariant.room, c.fill_row.ensures.1);
    }

pub extend-requires : goal.extend-requires
extend-requires c =
    let rows : List ReportRow = c.as_slice-row-items.result.now in
    let all : length rows ≤ c.loop-row.row-index = search (arith, c.loop-row-test.false) in
    room_end c.args.report.now c.args.room.now c.loop-row.room c.requires
    (all_rows c.args.report.now rows c.loop-row.row-index c.args.room.now.bytes c.loop-row.room.bytes c.loop-row.invariant.items all c.loop-row.invariant.text) c.loop-row.invariant.room

pub returns : goal.returns
returns c =
    let rows : List ReportRow = c.as_slice-row-items.result.now in
    let all : length rows ≤ c.loop-row.row-index = search (arith, c.loop-row-test.false) in (
      whole_text c.args.report.now c.args.room.now.bytes c.loop-row.room.bytes c.extend.new.self.bytes
          (all_rows c.args.report.now rows c.loop-row.row-index c.args.room.now.bytes c.loop-row.room.bytes c.loop-row.invariant.items all c.loop-row.invariant.text) c.extend.ensures.0,
      omega (arith, c.loop-row.invariant.room, c.extend.ensures.1),
    )
