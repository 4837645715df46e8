use Rattle.std.proofs.Common.{◌<◌, length, arith}
use Rattle.agent_core.proofs.Reporting.{adds_all, adds_full, adds_one, adds_room}
use Rattle.agent_core.proofs.finishing.add_rows.Goals as goal

pub returns-then-len-ge-MOST_ROWS : goal.returns-then-len-ge-MOST_ROWS
returns-then-len-ge-MOST_ROWS c = adds_full c.args.histories.now c.loop-history.history-index c.loop-history.rows.items (omega arith) c.loop-history.invariant.so_far

pub add_row-requires : goal.add_row-requires
add_row-requires c pending =
    let items = c.as_slice-history-items.result.now in
    let inside : c.loop-history.history-index < length items = omega arith in
    adds_room items c.args.histories.now c.loop-history.history-index _ c.history-item.result c.loop-history.rows.items c.as_slice-history-items.ensures.value inside c.history-item.is (omega arith) (omega arith)
    c.loop-history.invariant.so_far pending

pub loop-history-preserved : goal.loop-history-preserved
loop-history-preserved c =
    let items = c.as_slice-history-items.result.now in
    let inside : c.loop-history.history-index < length items = omega arith in
    record {
      so_far = adds_one items c.args.histories.now c.loop-history.history-index c.history-item.result c.loop-history.rows.items c.add_row.new.rows.items c.as_slice-history-items.ensures.value inside c.history-item.is (omega arith)
          c.add_row.ensures.rows c.loop-history.invariant.so_far;
      room = omega (arith, c.add_row.ensures.room, c.loop-history.invariant.room);
    }

pub returns : goal.returns
returns c = adds_all c.as_slice-history-items.result.now c.args.histories.now c.loop-history.history-index c.loop-history.rows.items c.as_slice-history-items.ensures.value (omega arith) c.loop-history.invariant.so_far
