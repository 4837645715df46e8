use Rattle.std.proofs.Common.{arith, ◌<◌, length, List}
use Rattle.desk_keep.specs.declared.change.Change.{Change}
use Rattle.server_text.specs.ToldRows.{result_row}
use Rattle.server_text.proofs.Gathering.{gathered}
use Rattle.server_text.proofs.result_rows.results_in.Goals as goal

pub loop-row-preserved : goal.loop-row-preserved
loop-row-preserved c =
    let rows : List Change = c.args.rows.now in
    let within : c.loop-row.row-index < length rows = search (arith, c.loop-row-test.true) in
    gathered result_row rows c.loop-row.row-index c.row-item.result c.row-item.result c.loop-row.results c.push_result.new.results within c.loop-row.invariant c.row-item.is c.in_ok-push_result.ensures
