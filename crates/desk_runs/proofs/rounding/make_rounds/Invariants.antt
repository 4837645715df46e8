use Rattle.agent_core.specs.Agents.{shown_state}
use Rattle.agent_core.specs.Devices.{devices}
use Rattle.agent_core.specs.Stops.{HeldWaitsBelow}
use Rattle.desk_rounds.specs.AgentRounds.{agent_point}
use Rattle.desk_runs.specs.AgentRuns.{HasMade}
use Rattle.desk_runs.specs.AgentSteps.{agent_scene}
use Rattle.desk_runs.proofs.rounding.make_rounds.Given as goal

-- so many rounds were made, and the program that the held attempt waits for is one that the machine started
abbrev pub invariant-loop-number : goal.invariant-loop-number
invariant-loop-number g l =
    HasMade l.fn.rounder
    (agent_scene (agent_point (shown_state l.fn.agent) (g.L.Link.told l.fn.link) (devices (g.M.Machine.told l.fn.machine) (g.P.Pocket.told l.fn.pocket)) (g.C.Clock.told l.fn.clock)) (g.W.Sink.told l.fn.sink))
    l.number
    (agent_scene (agent_point (shown_state l.agent) (g.L.Link.told l.link) (devices (g.M.Machine.told l.machine) (g.P.Pocket.told l.pocket)) (g.C.Clock.told l.clock)) (g.W.Sink.told l.sink))
    × HeldWaitsBelow (g.M.Machine.told l.machine).started (shown_state l.agent).held
