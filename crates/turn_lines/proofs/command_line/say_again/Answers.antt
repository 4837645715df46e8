use Rattle.std.proofs.Common.{◌<◌, length, refl, arith}
use Rattle.turn_lines.proofs.Replaying.{again_more}
use Rattle.turn_lines.proofs.command_line.say_again.Goals as goal

pub loop-command-init : goal.loop-command-init
loop-command-init c = (refl, refl)

pub loop-command-preserved : goal.loop-command-preserved
loop-command-preserved c =
    let within : c.loop-command.command-index < length c.args.commands.now = search (arith, c.loop-command-test.true) in
    again_more _ _ _ _ _ c.args.commands.now c.loop-command.command-index c.command-item.result _ _ within c.command-item.is c.in_ok-say_one_again.ensures.lines c.in_ok-say_one_again.ensures.world c.loop-command.invariant
