use Rattle.std.proofs.Common.{arith, ◌<◌, length, List}
use Rattle.desk_keep.specs.declared.change.Change.{Change}
use Rattle.server_text.specs.ToldRows.{site_version}
use Rattle.server_text.proofs.Gathering.{gathered}
use Rattle.server_text.proofs.site_versions.sites_in.Goals as goal

pub loop-row-preserved : goal.loop-row-preserved
loop-row-preserved c =
    let rows : List Change = c.args.rows.now in
    let within : c.loop-row.row-index < length rows = search (arith, c.loop-row-test.true) in
    gathered site_version rows c.loop-row.row-index c.row-item.result c.row-item.result c.loop-row.sites c.push_version.new.sites within c.loop-row.invariant c.row-item.is c.in_ok-push_version.ensures
