-- What `agent` does: it names the upstream, the pocket and the work folder, opens the agent, and makes its rounds.
use Rattle.std.specs.Prelude.{◌≡◌, ◌⊎◌, ℕ, ◌≤◌, List, ◌++◌, codes, decimal, Option, Some, None, Ok, Err}
use Rattle.std.specs.declared.alloc.AllocError.{AllocError}
use Rattle.std.specs.declared.result.Result.{Result}
use Rattle.desk_base.specs.Counts.{CountsFaults}
use Rattle.desk_base.specs.Flow.{Writes}
use Rattle.desk_base.specs.Views.{SinkView, ClockView}
use Rattle.desk_base.specs.declared.sink.Put.{Put}
use Rattle.desk_base.specs.declared.sink.Put.TheVariants as put
use Rattle.bf_machine.specs.Views.{MachineView}
use Rattle.desk_door.specs.Links.{LinkView}
use Rattle.agent_text.specs.Pockets.{PocketView}
use Rattle.agent_text.specs.SavedTexts.{ReadsSaved}
use Rattle.agent_text.specs.declared.error.SavedError.TheVariants as error
use Rattle.agent_state.specs.States.{State}
use Rattle.agent_core.specs.Agents.{AgentState, shown_state}
use Rattle.agent_core.specs.Devices.{devices}
use Rattle.agent_core.specs.Opens.{OpensFrom}
use Rattle.agent_core.specs.declared.opening.Opened.{Opened}
use Rattle.agent_core.specs.declared.opening.Opened.TheVariants as opened
use Rattle.desk_rounds.specs.AgentRounds.{agent_point}
use Rattle.desk_rounds.specs.declared.agent_rounds.Rounder.{Rounder}
use Rattle.desk_rounds.specs.declared.way.Upstreams.{Upstreams}
use Rattle.desk_runs.specs.declared.rounding.AgentStop.{AgentStop}
use Rattle.desk_runs.specs.declared.rounding.AgentStop.TheVariants as stop
use Rattle.desk_runs.specs.AgentRuns.{MakesAll}
use Rattle.desk_runs.specs.AgentSteps.{AgentScene, agent_scene}
use Rattle.desk_top.specs.declared.command.AgentWords.{AgentWords}
use Rattle.desk_top.specs.declared.status.Status.{Status}
use Rattle.desk_top.specs.declared.status.Status.TheVariants.{Done, Refused, Sink, Clock, Pocket, Memory}
use Rattle.desk_top.specs.Relayed.{with_upstream}
use denote.Ref.{Bor}

-- what the devices of an agent tell
pub record Rounding : Type 0 where
  pub machine : MachineView
  pub pocket : PocketView
  pub link : LinkView
  pub clock : ClockView
  pub sink : SinkView

abbrev pub agent_devices : MachineView → PocketView → LinkView → ClockView → SinkView → Rounding
agent_devices machine pocket link clock sink = record { machine = machine; pocket = pocket; link = link; clock = clock; sink = sink }

-- The upstream was named, and then an agent was to be opened from the pocket, which came to this.
pub record OpensRounds (asked : AgentWords) (old : Rounding) (answer : Opened) (new : Rounding) : Type 0 where
  pub link : new.link ≡ with_upstream asked.upstream.now old.link
  pub pocket : OpensFrom asked.name.now old.pocket answer new.pocket
  pub machine : new.machine ≡ old.machine
  pub clock : new.clock ≡ old.clock
  pub sink : new.sink ≡ old.sink

-- Memory ran out before the first round: the upstream may be named, and nothing else is done.
pub record OpensNone (asked : AgentWords) (old new : Rounding) : Type 0 where
  pub link : (new.link ≡ old.link) ⊎ (new.link ≡ with_upstream asked.upstream.now old.link)
  pub pocket : new.pocket ≡ old.pocket
  pub machine : new.machine ≡ old.machine

-- ---- a pocket that is refused
-- what is written of its first bad line
unfoldable pub bad_pocket : ℕ → List ℕ
bad_pocket number = codes "bad pocket " ++ decimal number ++ codes "\n"

-- The pocket's text is refused at a line, and the sink answered so when that was to be written.
pub record RefusesPocket (asked : AgentWords) (line : ℕ) (old : Rounding) (answer : Put) (new : Rounding) : Type 0 where
  pub before : Rounding
  pub opens : OpensRounds asked old (opened.BadPocket line) before
  pub writes : Writes (bad_pocket line) before.sink answer new.sink
  pub rest : new ≡ record before { sink = new.sink }

-- the pocket has a text that an agent of this name refuses
abbrev pub IsBadPocket : List ℕ → Option (List ℕ) → Type 0
IsBadPocket name None = ⊥
IsBadPocket name (Some text) = (line : ℕ) × ReadsSaved name text (Err (error.BadLine line))

-- ---- rounds
-- the two upstreams of its rounds, where a second one is named
abbrev pub upstreams_of : List ℕ → Option (Bor (List ℕ)) → Option Upstreams
upstreams_of first None = None
upstreams_of first (Some second) = Some (record { first = first; second = second.now })

-- whose rounds they are
abbrev pub rounder_of : AgentWords → Rounder
rounder_of asked = record { name = asked.name.now; offset = asked.offset; upstreams = upstreams_of asked.upstream.now asked.second }

-- what the rounds of an agent go on that stands so
abbrev pub agent_at : State → Rounding → AgentScene
agent_at agent d = agent_scene (agent_point agent d.link (devices d.machine d.pocket) d.clock) d.sink

-- The agent was opened, and then made its rounds, which ended so.
abbrev pub RoundsAt : AgentWords → Rounding → Result Unit AgentStop → Rounding → Type 0
RoundsAt asked old result new =
    (begun : Rounding) × (agent : AgentState) × (last : State) × OpensRounds asked old (opened.Agent agent) begun
    × MakesAll (rounder_of asked) (agent_at (shown_state agent) begun) asked.count result (agent_at last new)

-- the status of rounds that were cut
abbrev pub status_of_rounds : AgentStop → Status
status_of_rounds stop.Clock = Clock
status_of_rounds stop.Pocket = Pocket
status_of_rounds stop.Sink = Sink
status_of_rounds stop.Memory = Memory

-- ---- Only private functions cite these definitions.
-- The upstream, the pocket and the work folder were named, or there was no memory for that.
abbrev pub NamesAll : AgentWords → Rounding → Result Unit AllocError → Rounding → Type 0
NamesAll asked old (Ok done) new = new ≡ record old { link = with_upstream asked.upstream.now old.link }
NamesAll asked old (Err error) new = OpensNone asked old new

-- How the refusal of a pocket's text ends. Unwritten says that nothing was written.
abbrev pub SaysBadPocket : Status → ℕ → SinkView → SinkView → Type 0 → Type 0
SaysBadPocket Refused line old new Unwritten = Writes (bad_pocket line) old put.Done new
SaysBadPocket Sink line old new Unwritten = Writes (bad_pocket line) old put.Failed new
SaysBadPocket Memory line old new Unwritten = Unwritten
SaysBadPocket _ line old new Unwritten = ⊥

-- How the rounds of an agent end that was opened.
abbrev pub EndsRounds : Rounder → ℕ → Status → AgentScene → Rounding → Type 0
EndsRounds rounder count Done begun new = (last : State) × MakesAll rounder begun count (Ok tt) (agent_at last new)
EndsRounds rounder count Sink begun new = (last : State) × MakesAll rounder begun count (Err stop.Sink) (agent_at last new)
EndsRounds rounder count Clock begun new = (last : State) × MakesAll rounder begun count (Err stop.Clock) (agent_at last new)
EndsRounds rounder count Pocket begun new = (last : State) × MakesAll rounder begun count (Err stop.Pocket) (agent_at last new)
EndsRounds rounder count Memory begun new = (last : State) × MakesAll rounder begun count (Err stop.Memory) (agent_at last new)
EndsRounds rounder count _ begun new = ⊥

-- How `agent` ends. Unwritten says that nothing was written, and Untimed that the clock is as it was.
abbrev pub AgentEnds : AgentWords → Status → Rounding → Rounding → Type 0 → Type 0 → Type 0
AgentEnds asked Done old new Unwritten Untimed = RoundsAt asked old (Ok tt) new
AgentEnds asked Refused old new Unwritten Untimed = (line : ℕ) × RefusesPocket asked line old put.Done new
AgentEnds asked Sink old new Unwritten Untimed =
    ((line : ℕ) × RefusesPocket asked line old put.Failed new) ⊎ RoundsAt asked old (Err stop.Sink) new
AgentEnds asked Clock old new Unwritten Untimed = RoundsAt asked old (Err stop.Clock) new
AgentEnds asked Pocket old new Unwritten Untimed =
    (OpensRounds asked old opened.PocketFault new × Unwritten × Untimed) ⊎ RoundsAt asked old (Err stop.Pocket) new
AgentEnds asked Memory old new Unwritten Untimed =
    (OpensNone asked old new × Unwritten × Untimed) ⊎ RoundsAt asked old (Err stop.Memory) new
AgentEnds asked _ old new Unwritten Untimed = ⊥

-- The counts of faults by how `agent` ended.
pub record CountsAgent (result : Status) (old new : Rounding) : Type 0 where
  pub sink : CountsFaults (result ≡ Sink) old.sink.faults new.sink.faults
  pub clock : CountsFaults (result ≡ Clock) old.clock.faults new.clock.faults
  pub pocket : CountsFaults (result ≡ Pocket) old.pocket.faults new.pocket.faults
  pub machine : old.machine.faults ≤ new.machine.faults
  pub link : old.link.faults ≤ new.link.faults
