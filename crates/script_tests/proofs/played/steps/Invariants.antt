use Rattle.std.proofs.Common.{length}
use Rattle.script_run.specs.RunPlaces.{WaitsBelow}
use Rattle.script_tests.proofs.played.steps.Given as goal

abbrev pub invariant-steps : goal.invariant-steps
invariant-steps l = WaitsBelow (length l.machine.world.started) l.run.place
