-- What runs of relays and agents do to the counts of faults.
use Rattle.std.specs.Prelude.{◌≡◌, ◌⊎◌, ℕ, ◌+◌, ◌≤◌, List, [], ◌∷◌, Option, codes, if◌then◌else◌, IsErrOf}
use Rattle.std.specs.declared.result.Result.{Result}
use Rattle.desk_base.specs.Counts.{CountsFaults, Rose}
use Rattle.desk_base.specs.declared.sink.Put.TheVariants as put
use Rattle.desk_door.specs.Doors.{DoorView, BeginsNext}
use Rattle.bf_machine.specs.Rises.{RoseBy}
use Rattle.route_rules.specs.declared.route.Routes.TheVariants as routes
use Rattle.desk_http.specs.Conversing.{IsDue}
use Rattle.desk_hosts.specs.RelayCalls.{RelayCalls}
use Rattle.agent_core.specs.Agents.{AgentState, shown_state}
use Rattle.agent_core.specs.Opens.{OpensAgent}
use Rattle.agent_core.specs.ToldFaults.{fault_told}
use Rattle.agent_core.specs.declared.opening.Opened.TheVariants as opened
use Rattle.agent_core.specs.declared.turned.Turned.TheVariants as turn
use Rattle.desk_rounds.specs.Lines.{Line, no_answer, bad_answer, second_upstream, turned}
use Rattle.desk_serve.specs.declared.step.Stop.{Stop}
use Rattle.desk_serve.specs.declared.step.Stop.TheVariants as stop
use Rattle.desk_serve.specs.ServeCounts.{is_door_fault}
use Rattle.desk_runs.specs.AgentRuns as agent
use Rattle.desk_runs.specs.AgentRuns.{AgentRun}
use Rattle.desk_runs.specs.RelayRuns as relay
use Rattle.desk_runs.specs.RelayRuns.{RelayRun}
use Rattle.desk_runs.specs.RelaySteps.{RelayScene, TellsRound, TellsTalk, host_of}
use Rattle.desk_runs.specs.AgentSteps.{AgentScene}
use Rattle.desk_runs.specs.declared.rounding.AgentStop.{AgentStop}
use Rattle.desk_runs.specs.declared.rounding.AgentStop.TheVariants as cut

-- The sink's count of faults rose where that ended the relay's run, and stayed where it didn't. The door's and the link's never fell, and
-- the door's rose where that ended the run.
pub record CountsRelayed (result : Result Unit Stop) (old new : RelayScene) : Type 0 where
  pub sink : CountsFaults (IsErrOf result stop.Sink) old.sink.faults new.sink.faults
  pub door : old.door.faults ≤ new.door.faults
  pub rose : IsErrOf result stop.Door → Rose old.door.faults new.door.faults
  pub link : old.link.faults ≤ new.link.faults

-- The count of the sink, the clock and the pocket rose where that ended the agent's run, and stayed where it didn't. The machine's and the
-- link's never fell.
pub record CountsRounds (result : Result Unit AgentStop) (old new : AgentScene) : Type 0 where
  pub sink : CountsFaults (IsErrOf result cut.Sink) old.sink.faults new.sink.faults
  pub clock : CountsFaults (IsErrOf result cut.Clock) old.point.clock.faults new.point.clock.faults
  pub pocket : CountsFaults (IsErrOf result cut.Pocket) old.point.devices.pocket.faults new.point.devices.pocket.faults
  pub machine : old.point.devices.machine.faults ≤ new.point.devices.machine.faults
  pub link : old.point.at.way.link.faults ≤ new.point.at.way.link.faults

-- ---- lines that tell a fault
-- one where an exchange failed, also where another upstream was turned to then
abbrev pub no_answer_told : Line → ℕ
no_answer_told no_answer = 1
no_answer_told second_upstream = 1
no_answer_told bad_answer = 0
no_answer_told (turned computer moment answer) = 0

-- one where a turn says that a look failed before an attempt began
abbrev pub machine_fault_told : Line → ℕ
machine_fault_told (turned computer moment turn.MachineFault) = 1
machine_fault_told line = 0

-- one where a turn says that a look failed before an attempt began, or that an attempt ended by a fault of the machine
abbrev pub turn_fault_told : Line → ℕ
turn_fault_told (turned computer moment answer) = fault_told answer
turn_fault_told line = 0

-- how many lines tell so
abbrev pub told_in : (Line → ℕ) → List Line → ℕ
told_in told [] = 0
told_in told (line ∷ lines) = told line + told_in told lines

-- how many of the lines of a run's rounds tell so
abbrev pub told_of_relay : (Line → ℕ) → RelayRun → ℕ
told_of_relay told (relay.Begun lines) = told_in told lines
told_of_relay told (relay.Then run ended lines) = told_of_relay told run + told_in told lines

abbrev pub told_of_rounds : (Line → ℕ) → AgentRun → ℕ
told_of_rounds told agent.Begun = 0
told_of_rounds told (agent.Then run lines) = told_of_rounds told run + told_in told lines

-- how many conversations of a relay's run ended by a fault of the door
abbrev pub door_faults : RelayRun → ℕ
door_faults (relay.Begun lines) = 0
door_faults (relay.Then run ended lines) = door_faults run + (if is_door_fault ended then 1 else 0)

-- Of whole steps, at least as many faults of the link were counted as lines say that an exchange failed, and at least as many of the door
-- as conversations ended by one.
pub record CountsSteps (old : RelayScene) (run : RelayRun) (new : RelayScene) : Type 0 where
  pub link : RoseBy (told_of_relay no_answer_told run) old.link.faults new.link.faults
  pub door : RoseBy (door_faults run) old.door.faults new.door.faults

-- Of whole rounds, at least as many faults of the link were counted as lines say that an exchange failed, and at least as many of the
-- machine as lines say that a look failed before an attempt began.
pub record CountsLines (old : AgentScene) (run : AgentRun) (new : AgentScene) : Type 0 where
  pub link : RoseBy (told_of_rounds no_answer_told run) old.point.at.way.link.faults new.point.at.way.link.faults
  pub machine : RoseBy (told_of_rounds machine_fault_told run) old.point.devices.machine.faults new.point.devices.machine.faults

-- ---- conversations in which a relay told a fault of its link
-- a conversation was answered `link fault`
pub record ToldLinkFault (old new : RelayScene) : Type 0 where
  pub begun : DoorView
  pub begins : BeginsNext old.door put.Done begun
  pub due : IsDue RelayCalls routes.Relay begun (host_of old) 502 (codes "link fault\n") new.door (host_of new)

-- The steps of a run were whole, and at least so many of its conversations were answered so.
abbrev pub ToldLinkFaults : RelayScene → RelayRun → ℕ → RelayScene → Type 0
ToldLinkFaults old (relay.Begun lines) count new = (count ≡ 0) × TellsRound old put.Done lines new
ToldLinkFaults old (relay.Then run ended lines) count new =
    (before : ℕ) × (mid between : RelayScene) × ToldLinkFaults old run before mid × TellsTalk mid put.Done ended between
    × TellsRound between put.Done lines new × ((count ≡ before) ⊎ ((count ≡ before + 1) × ToldLinkFault mid between))

-- ---- rounds of an agent that was opened
-- the agent was opened as this computer's, from a pocket that told this
pub record WasOpened (computer : List ℕ) (scene : AgentScene) : Type 0 where
  pub told : Option (Option (List ℕ))
  pub agent : AgentState
  pub opens : OpensAgent computer told (opened.Agent agent)
  pub state : scene.point.at.client ≡ shown_state agent
