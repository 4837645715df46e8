use Rattle.std.proofs.Common.{arith, ◌<◌, length, List}
use Rattle.desk_keep.specs.declared.change.Change.{Change}
use Rattle.server_text.proofs.Gathering.{none_measured, one_measured}
use Rattle.server_text.proofs.actionsite.longest_actionsite.Goals as goal

pub loop-action-init : goal.loop-action-init
loop-action-init c = none_measured c.args.text.now c.stopped_len.result c.saturating_add-most.result c.stopped_len.ensures c.saturating_add-most.ensures

pub loop-action-preserved : goal.loop-action-preserved
loop-action-preserved c =
    let rows : List Change = c.args.actions.now in
    let within : c.loop-action.action-index < length rows = search (arith, c.loop-action-test.true) in
    one_measured c.args.text.now rows c.loop-action.action-index c.action-item.result c.action-item.result c.loop-action.most c.most_of.result c.saturating_add-most-in-loop-action.result within c.loop-action.invariant c.action-item.is c.most_of.ensures c.saturating_add-most-in-loop-action.ensures
