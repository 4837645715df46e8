use Rattle.std.proofs.Common.{◌++◌}
use Rattle.std.specs.Prelude.{drop}
use Rattle.bf_machine.specs.Steps.{answers_from, world_after}
use Rattle.turn_lines.specs.DoLines.{do_lines}
use Rattle.turn_lines.proofs.Replaying.{Again}
use Rattle.turn_lines.proofs.command_line.say_again.Given as goal

abbrev pub invariant-loop-command : goal.invariant-loop-command
invariant-loop-command l = Again l.moment l.out l.world (drop l.command-index l.commands)
    (l.fn.out ++ do_lines (answers_from l.moment l.fn.world l.commands)) (world_after l.moment l.fn.world l.commands)
