use Rattle.std.proofs.Common.{arith, ◌<◌, length, List}
use Rattle.desk_keep.specs.declared.change.Change.{Change}
use Rattle.server_text.proofs.Gathering.{texts_gathered}
use Rattle.server_text.proofs.actionsite.actionsite_body.Goals as goal

pub loop-action-preserved : goal.loop-action-preserved
loop-action-preserved c =
    let rows : List Change = c.args.actions.now in
    let within : c.loop-action.action-index < length rows = search (arith, c.loop-action-test.true) in
    texts_gathered c.args.version rows c.loop-action.action-index c.action-item.result c.action-item.result c.loop-action.out c.add_text.new.out within c.loop-action.invariant c.action-item.is c.in_ok-add_text.ensures
