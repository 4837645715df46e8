-- What a part of a run does: some of what is said is written, and the rest waits to be written. Only private functions cite this.
use Rattle.std.specs.Prelude.{◌≡◌, ◌⊎◌, ◌<◌, ◌≤◌, ◌-◌, length, drop, ℕ, ℤ, List, [], ◌++◌, Option, None, Some, Result, Ok, MatchResult, map}
use Rattle.std.specs.Io.KnownBytes.{Appends, Keeps}
use Rattle.desk_base.specs.Counts.{CountsFaults}
use Rattle.desk_base.specs.Views.{SinkView, ClockView}
use Rattle.bf_machine.specs.Looks.{LooksUp}
use Rattle.bf_machine.specs.Views.{MachineView, OnlyLooks}
use Rattle.bf_world.specs.declared.key.Key.{Key}
use Rattle.bf_world.specs.Worlds.{WorldState}
use Rattle.rel_nodes.specs.Spans.{span_of_node}
use Rattle.rel_eval.specs.Answers.{PreparesAs}
use Rattle.rel_eval.specs.Cursors.{cursor_rest}
use Rattle.rel_eval.specs.Cuts.{meaning}
use Rattle.rel_eval.specs.Questions.{plan_of}
use Rattle.rel_eval.specs.declared.cursor.Cursor.{Cursor}
use Rattle.rel_eval.specs.declared.question.Question.{Question}
use Rattle.rel_eval.specs.declared.refusal.Refusal.{Refusal}
use Rattle.rel_eval.specs.declared.refusal.Refusal.TheVariants.{At, NotDefined, Memory}
use Rattle.rel_session.specs.declared.paused.Left.{Left}
use Rattle.rel_session.specs.declared.paused.Left.TheVariants as left
use Rattle.rel_session.specs.declared.paused.Paused as code_paused
use Rattle.rel_session.specs.declared.paused.Step.{Step}
use Rattle.rel_session.specs.declared.paused.Step.TheVariants.{On, Out}
use Rattle.rel_session.specs.declared.session.Session as code_session
use Rattle.rel_session.specs.declared.line.Line.{Line}
use Rattle.bf_machine.specs.Rises.{CountsFailed}
use Rattle.rel_session.specs.Devices.{Dates, Devices, Did}
use Rattle.rel_session.specs.Printed.{said_error, said_undefined}
use Rattle.rel_session.specs.Readings.{Readings}
use Rattle.rel_session.specs.Sessions.{Answers, Asks, IsFrontOfLine, IsGiven, Paused, Session, Run, RunsLine, scene_at}
use Rattle.rel_lexer.specs.declared.place.Place.{Place}
use Rattle.rel_session.specs.Tellings.{Telling, Tells, TellsSome, onto}
use Rattle.rel_trace.specs.Trace.{Stop, Trace, Ends}

-- what the sink tells, the bytes that wait to be written, and what the machine tells
pub record State : Type 0 where
  pub sink : SinkView
  pub waiting : List ℕ
  pub machine : MachineView

-- the state of these
abbrev pub state_of : SinkView → List ℕ → MachineView → State
state_of sink waiting machine = record { sink = sink; waiting = waiting; machine = machine }

-- Nothing was done but to look and to write; the sink's count rose where it failed, and stayed where it didn't; no failure is the clock's.
pub record OnlyTells (sink_failed clock_failed : Type 0) (old new : State) : Type 0 where
  pub looks : OnlyLooks old.machine new.machine
  pub sink : CountsFaults sink_failed old.sink.faults new.sink.faults
  pub never : ¬ clock_failed

-- The run was said: a front of what waited and of its bytes was written, and the rest waits.
pub record Says (old new : State) (run : Run) : Type 0 where
  pub written : List ℕ
  pub appended : Appends old.sink.held new.sink.held written
  pub whole : old.waiting ++ run.bytes ≡ written ++ new.waiting
  pub looked : LooksUp old.machine.world old.machine.looked new.machine.looked run.looks
  pub faults : CountsFailed run.faults old.machine.faults new.machine.faults

-- Keys were looked up that are a front of these.
pub record LooksFront (world : Option WorldState) (old new : Option (List Key)) (all : List Key) : Type 0 where
  pub keys : List Key
  pub looked : LooksUp world old new keys
  pub unlooked : List Key
  pub whole : all ≡ keys ++ unlooked

-- A front of what waited and of the run's bytes was written, a front of its keys was looked up, and so many looks failed.
pub record Stops (old new : State) (run : Run) : Type 0 where
  pub written : List ℕ
  pub appended : Appends old.sink.held new.sink.held written
  pub unsaid : List ℕ
  pub whole : old.waiting ++ run.bytes ≡ written ++ unsaid
  pub looks : LooksFront old.machine.world old.machine.looked new.machine.looked run.looks
  pub faults : CountsFailed run.faults old.machine.faults new.machine.faults

-- what a question means at a moment, and its span
unfoldable pub meaning_of : WorldState → ℤ → ℤ → Question → Trace
meaning_of w moment offset question = meaning w (scene_at moment offset) (plan_of question)

unfoldable pub span_of : Question → Place
span_of question = span_of_node (plan_of question)

-- some of what waited was written, or nothing
abbrev pub Flushes : Option (List ℕ) → Option (List ℕ) → List ℕ → List ℕ → Type 0
Flushes held held' old new = (written : List ℕ) × Appends held held' written × (old ≡ written ++ new)

-- what a cursor has still to give
unfoldable pub left_of : Cursor → WorldState → Trace
left_of cursor w = cursor_rest w cursor

-- The trace is what a cursor has still to give.
abbrev pub IsLeftOf : Option WorldState → Cursor → Trace → Type 0
IsLeftOf world cursor t = IsGiven world (left_of cursor) t

-- a trace that is given
abbrev pub some_given : Option WorldState → (WorldState → Trace) → Trace
some_given None given = Ends Stop
some_given (Some w) given = given w

-- the last fifteen
abbrev pub last_fifteen : List code_paused.Paused → List code_paused.Paused
last_fifteen all = drop (length all - 15) all

-- a paused question
abbrev pub paused_of : Option WorldState → code_paused.Paused → Paused
paused_of world p = record { rest = some_given world (left_of p.cursor); span = p.span }

-- a session
abbrev pub session_of : Option WorldState → code_session.Session → Session
session_of world s = record { page = s.page; paused = map (paused_of world) s.paused.items }

-- The question goes on with this, or it is over.
abbrev pub IsLeft : Left → Option Trace → Trace → Type 0
IsLeft left.Nothing told rest = told ≡ None
IsLeft left.More told rest = told ≡ Some rest

-- This is told of the whole, with which the question is over or pauses: what was said, looked up, and failed.
pub record TellsOut (tells : Telling → Type 0) (why : Left) (rest : Trace) (said : List ℕ) (keys : List Key) (faults : ℕ) : Type 0 where
  pub told : Telling
  pub is : tells told
  pub goes : IsLeft why told.rest rest
  pub bytes : said ≡ told.bytes
  pub looks : keys ≡ told.looks
  pub failed : faults ≡ told.faults

-- What comes of one step: what is told of what is left, in the room that is left, is told of the whole with this said and these keys
-- looked up before it; or this is told of the whole.
abbrev pub Comes : (Option ℕ → Telling → Type 0) → (Telling → Type 0) → Step → Trace → List ℕ → List Key → ℕ → Type 0
Comes later tells (On room) rest said keys faults = ((u : Telling) → later room u → tells (onto said keys u)) × (faults ≡ 0)
Comes later tells (Out why) rest said keys faults = TellsOut tells why rest said keys faults

-- a value was told, and no look was made, whatever is left behind the value
pub record TellsValue (offset : ℤ) (span : Place) (tells : Trace → Telling → Type 0) (step : Step) (old new : List ℕ) : Type 0 where
  pub said : List ℕ
  pub comes : (t : Trace) → Comes (λ room. Tells offset span room t) (tells t) step t said [] 0
  pub appended : new ≡ old ++ said

-- The next value was told, or how the question ends. What waits, and what the machine tells, was that and is this.
pub record TellsStep (world : Option WorldState) (later : Option ℕ → Telling → Type 0) (tells : Telling → Type 0) (step : Step)
    (left : Trace) (waits : List ℕ) (old : MachineView) (waits' : List ℕ) (new : MachineView) : Type 0 where
  pub said : List ℕ
  pub keys : List Key
  pub faults : ℕ
  pub comes : Comes later tells step left said keys faults
  pub appended : waits' ≡ waits ++ said
  pub looks : LooksUp world old.looked new.looked keys
  pub rose : CountsFailed faults old.faults new.faults

-- What is told of a cursor's question, in this room.
abbrev pub TellsLeft : Option WorldState → ℤ → Place → Cursor → Option ℕ → Telling → Type 0
TellsLeft world offset span cursor room told = TellsSome offset span room (IsLeftOf world cursor) told

-- Something could be told of this, of which a front was looked up, with as many failed looks.
pub record Stays (world : Option WorldState) (tells : Telling → Type 0) (old new : MachineView) : Type 0 where
  pub told : Telling
  pub is : tells told
  pub looks : LooksFront world old.looked new.looked told.looks
  pub rose : CountsFailed told.faults old.faults new.faults

-- what is left to draw falls
abbrev pub IsNearer : Step → ℕ → ℕ → Type 0
IsNearer (On room) old new = new < old
IsNearer (Out left) old new = Unit {0}

-- at most sixteen questions are paused
abbrev pub IsFew : code_session.Session → Type 0
IsFew s = length s.paused.items ≤ 16

-- Nothing was written or looked up, and no look failed.
pub record Unwritten (old new : State) : Type 0 where
  pub keeps : Keeps old.sink.held new.sink.held
  pub looked : LooksUp old.machine.world old.machine.looked new.machine.looked []
  pub steady : new.machine.faults ≡ old.machine.faults

-- A question comes exactly where the text is read as one, and a refusal exactly as it is refused.
unfoldable pub IsRead : Readings → List ℕ → Result Question Refusal → Type 0
IsRead reads text result = PreparesAs (reads text) result

-- A question is at its start in a scene of this moment and offset.
pub record IsStarted (moment offset : ℤ) (question : Question) (started : code_paused.Paused) : Type 0 where
  pub rest : (w : WorldState) → left_of started.cursor w ≡ meaning_of w moment offset question
  pub span : started.span ≡ span_of question

-- The text is a question, which is at its start.
abbrev pub IsOpened : Readings → ℤ → ℤ → List ℕ → code_paused.Paused → Type 0
IsOpened reads moment offset text started = (question : Question) × IsRead reads text (Ok question) × IsStarted moment offset question started

-- What a refusal says was appended. Want of memory is not said but ends the call.
abbrev pub SaysRefusal : Refusal → List ℕ → List ℕ → Type 0
SaysRefusal (At kind place) old new = new ≡ old ++ said_error kind place
SaysRefusal (NotDefined place words) old new = new ≡ old ++ said_undefined place words
SaysRefusal Memory old new = ⊥

-- What a line asks for was done.
abbrev pub Obeys : Readings → Option WorldState → ℤ → Session → List ℕ → List ℤ → Run → Session → Type 0
Obeys reads world offset s line moments run s' = (what : Line) × Asks line what × Answers reads world offset s line what moments run s'

-- A run of this kind was said, and leaves this session.
abbrev pub SaysOf : (Run → Session → Type 0) → Session → State → State → Type 0
SaysOf Is s old new = (run : Run) × Is run s × Says old new run

-- A front of a run of this kind was said.
abbrev pub StopsIn : (Run → Session → Type 0) → State → State → Type 0
StopsIn Is old new = (run : Run) × (s : Session) × Is run s × Stops old new run

-- A front of a run of this kind was said, or nothing of it so far.
abbrev pub StopsEarly : (Run → Session → Type 0) → State → State → Type 0
StopsEarly Is old new = Unwritten old new ⊎ StopsIn Is old new

-- A run of this kind was said, and leaves this session, or a front of it, at an error.
abbrev pub SaysOrStops : {T E : Type 0} → (Run → Session → Type 0) → Session → State → State → Result T E → Type 0
SaysOrStops Is s old new result = MatchResult result (λ _. SaysOf Is s old new) (λ _. StopsIn Is old new)

-- The same, where at an error nothing of it may have been said so far.
abbrev pub SaysOrStopsEarly : {T E : Type 0} → (Run → Session → Type 0) → Session → State → State → Result T E → Type 0
SaysOrStopsEarly Is s old new result = MatchResult result (λ _. SaysOf Is s old new) (λ _. StopsEarly Is old new)

-- A run was said, with the moments that it used, and leaves this session.
pub record SaysAll (fixed : Option ℤ) (clock clock' : ClockView) (Runs : List ℤ → Run → Session → Type 0) (s : Session)
    (old new : State) : Type 0 where
  pub moments : List ℤ
  pub run : Run
  pub runs : Runs moments run s
  pub says : Says old new run
  pub dated : Dates fixed clock.given clock'.given moments

-- A front of a run was said, or nothing of it so far, with the moments had.
pub record SaysFront (fixed : Option ℤ) (clock clock' : ClockView) (Runs : List ℤ → Run → Session → Type 0) (old new : State) : Type 0 where
  pub moments : List ℤ
  pub few : length moments ≤ 1
  pub dated : Dates fixed clock.given clock'.given moments
  pub front : StopsEarly (Runs moments) old new

-- A run was said, and leaves this session, or a front of it, at an error, with the moments of a clock.
abbrev pub SaysDated : {T E : Type 0} → Option ℤ → ClockView → ClockView → (List ℤ → Run → Session → Type 0) → Session → State → State
    → Result T E → Type 0
SaysDated fixed clock clock' Runs s old new result =
    MatchResult result (λ _. SaysAll fixed clock clock' Runs s old new) (λ _. SaysFront fixed clock clock' Runs old new)

-- A line was run, and leaves this session, or a front of it, at an error.
abbrev pub DoesLine : {T E : Type 0} → Readings → ℤ → Option ℤ → Session → List ℕ → Session → Devices → Devices → Result T E → Type 0
DoesLine reads offset fixed s line s' old new result = MatchResult result
    (λ _. (moments : List ℤ) × (run : Run) × RunsLine reads old.machine.world offset s line moments run s'
    × Did old.machine.world fixed old new moments run)
    (λ _. (moments : List ℤ) × (front : Run) × IsFrontOfLine reads old.machine.world offset s line moments front
    × Did old.machine.world fixed old new moments front)
