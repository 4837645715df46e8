use Rattle.std.proofs.Common.{length}
use Rattle.agent_core.specs.Agents.{shown_state}
use Rattle.agent_core.specs.Stops.{HeldWaitsBelow}
use Rattle.rounds_tests.proofs.agents.rounds.Given as goal

abbrev pub invariant-rounds : goal.invariant-rounds
invariant-rounds l = HeldWaitsBelow (length l.machine.world.started) (shown_state l.agent).held
