use Rattle.std.proofs.Common.{◌≡◌, ◌+◌, ◌-◌, ◌≤◌, length}
use Rattle.agent_core.specs.Agents.{shown_state}
use Rattle.agent_core.specs.Devices.{devices}
use Rattle.agent_core.specs.Stops.{HeldWaitsBelow}
use Rattle.turn_lines.specs.TurnsWithFiles.{TurnsMade}
use Rattle.turn_lines.proofs.Bounds.{Few, bound_of}
use Rattle.turn_lines.proofs.with_files.turn_with_files.Given as goal

abbrev pub invariant-files : goal.invariant-files
invariant-files g l = record {
  waits : HeldWaitsBelow (g.M.Machine.told l.machine).started (shown_state l.agent).held;
  started : (g.M.Machine.told l.fn.machine).started ≤ (g.M.Machine.told l.machine).started;
  holds : g.G.Giver.holds l.giver ≡ g.G.Giver.holds l.fn.giver;
  made : TurnsMade g.G.Giver.gives (record { moment = l.time.moment; offset = l.time.offset }) (shown_state l.fn.agent)
      (devices (g.M.Machine.told l.fn.machine) (g.P.Pocket.told l.fn.pocket)) (g.G.Giver.told l.fn.giver) l.turned (shown_state l.agent)
      (devices (g.M.Machine.told l.machine) (g.P.Pocket.told l.pocket)) (g.G.Giver.told l.giver);
  few : Few (bound_of l.initial.agent + length (g.G.Giver.told l.initial.giver).asked) (length (g.G.Giver.told l.giver).asked) l.turned
      (shown_state l.agent);
}

abbrev pub decreases-files : goal.decreases-files
decreases-files g l =
    bound_of l.initial.agent + length (g.G.Giver.told l.initial.giver).asked + 1 - length (g.G.Giver.told l.giver).asked
