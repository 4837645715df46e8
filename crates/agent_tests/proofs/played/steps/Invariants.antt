use Rattle.std.proofs.Common.{length}
use Rattle.agent_core.specs.Agents.{shown_state}
use Rattle.agent_core.specs.Stops.{HeldWaitsBelow}
use Rattle.agent_tests.proofs.played.steps.Given as goal

abbrev pub invariant-steps : goal.invariant-steps
invariant-steps l = HeldWaitsBelow (length l.machine.world.started) (shown_state l.agent).held
