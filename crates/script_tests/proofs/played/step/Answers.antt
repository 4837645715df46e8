use Rattle.std.proofs.Common.{length}
use Rattle.script_tests.proofs.played.step.Goals as goal

pub returns-in_default : goal.returns-in_default
returns-in_default c = record { waits = c.supplied.ensures.waits (length c.args.machine.now.world.started) c.requires.waits }
