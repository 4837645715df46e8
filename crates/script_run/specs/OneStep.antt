-- What one step of a run does, and what it is made of. No public contract speaks of it.
use Rattle.std.specs.Prelude.{◌≡◌, ◌+◌, ◌<◌, ◌≤◌, ⊤, ℕ, true, false, List, Option, Some, None, Result}
use Rattle.bf_world.specs.declared.command.Command.TheVariants as command
use Rattle.bf_world.specs.declared.command.Acted.{Acted}
use Rattle.bf_world.specs.declared.command.Acted.TheVariants as of_act
use Rattle.bf_machine.specs.Views.{MachineView}
use Rattle.script_text.specs.declared.line.Line.{Line}
use Rattle.script_text.specs.declared.prefetch.Prefetch.{Prefetch}
use Rattle.script_text.specs.declared.tree.StatementList.{StatementList}
use Rattle.script_text.specs.Views.{shown_statements}
use Rattle.script_run.specs.declared.broken.Broken.{Broken}
use Rattle.script_run.specs.declared.cause.Cause.{Cause}
use Rattle.script_run.specs.declared.lines.Prepared.{Prepared}
use Rattle.script_run.specs.declared.place.Place.{Place}
use Rattle.script_run.specs.declared.place.Place.TheVariants.{Ready, Doing}
use Rattle.script_run.specs.declared.run.Run.{Run}
use Rattle.script_run.specs.declared.ran.Ran.{Ran}
use Rattle.script_run.specs.declared.todo.Todo.{Todo}
use Rattle.script_run.specs.Walks.{Known, Settled, Walk, Rest, failing, after_act, doing}
use Rattle.script_run.specs.LineWalks.{placing}
use Rattle.script_run.specs.ScriptWalks.{walk_all}
use Rattle.script_run.specs.Asking.{When, when_of, known_in}
use Rattle.script_run.specs.RunSteps.{Any, Stops}
use Rattle.script_run.specs.RunPlaces.{place_walk, todo_walk, around, from, WaitsBelow, wanted_at, MemoryLeaves}
use Rattle.script_run.specs.Weights.{place_weight, todo_weight, all_weight, around_weight, run_weight}
use Rattle.script_run.specs.Advances.{WantsAgain, wanted_by}
use Rattle.script_run.specs.Fills.{Reaches, PreparesLine}

-- ---- steps
-- Results came and the run goes on from what is left, or it stops there with an answer.
abbrev pub StepsTo : When → MachineView → Walk → Option Ran → MachineView → Walk → Type 0
StepsTo at old walk None new left = Reaches Any at old walk new left
StepsTo at old walk (Some ran) new left = (between : MachineView) × Reaches Any at old walk between left × Stops at between left ran new

-- a step that goes on brings the end nearer
abbrev pub Falls : Option Ran → ℕ → ℕ → Type 0
Falls None old new = new < old
Falls (Some ran) old new = ⊤

-- Where a step stops, what is wanted is what was answered, and memory runs out before a line alone.
abbrev pub Rests : Option Ran → Place → Type 0
Rests None place = ⊤
Rests (Some ran) place = (wanted_at place ≡ wanted_by ran) × MemoryLeaves ran place

-- One step from a walk of this weight.
pub record Steps (at : When) (old : MachineView) (walk : Walk) (weight : ℕ) (result : Option Ran) (new : MachineView) (run : Run)
    : Type 0 where
  pub steps : StepsTo at old walk result new (from run)
  pub falls : Falls result weight (run_weight run)
  pub time : when_of run.kept.scene ≡ at
  pub waits : WaitsBelow new.started run.place
  pub started : old.started ≤ new.started
  pub rests : Rests result run.place

-- Where a file is wanted the one step is that it is wanted again.
abbrev pub Again : Option (List ℕ) → MachineView → Walk → Option Ran → MachineView → Walk → Type 0
Again None old rest result new left = ⊤
Again (Some digest) old rest None new left = ⊥
Again (Some digest) old rest (Some ran) new left = WantsAgain digest old rest ran new left

-- One step of a run from this place.
pub record StepsFrom (place : Place) (old : Run) (before : MachineView) (result : Option Ran) (after : MachineView) (new : Run)
    : Type 0 where
  pub step : Steps (when_of old.kept.scene) before (place_walk place (around old) (known_in old.kept.scene))
      (place_weight place + around_weight old) result after new
  pub again : Again (wanted_at place) before (place_walk place (around old) (known_in old.kept.scene)) result after (from new)

-- Where a file was wanted no step was made.
abbrev pub Unmoved : Option (List ℕ) → MachineView → Walk → Option (List ℕ) → MachineView → Walk → Type 0
Unmoved None old rest wanted new left = ⊤
Unmoved (Some digest) old rest wanted new left = (wanted ≡ Some digest) × (new ≡ old) × (left ≡ rest)

-- ---- what a step is made of
-- Nothing is changed but the place, and the run goes on from there.
pub record MovesTo (place : Place) (old : Run) (result : Option Ran) (new : Run) : Type 0 where
  pub goes_on : result ≡ None
  pub moved : new ≡ record old { place = place }

-- Of a list the first line was taken out, and the place is before it; or it is empty.
abbrev pub BeginsAt : Todo → Option Place → Todo → Type 0
BeginsAt old None new =
    ((rest : Rest) (known : Known) (more : List Settled) → todo_walk old rest known more ≡ rest known more)
    × (todo_weight new ≤ todo_weight old)
BeginsAt old (Some place) new =
    ((rest : Rest) (known : Known) (more : List Settled) → todo_walk old rest known more ≡ place_walk place (todo_walk new rest) known more)
    × (place_weight place + todo_weight new < 1 + todo_weight old)
    × ((started : ℕ) → WaitsBelow started place)

-- The statements of a body come first.
pub record Enters (body : StatementList) (old new : Run) : Type 0 where
  pub walk : (more : List Settled) → walk_all (shown_statements body) (around old) (known_in old.kept.scene) more ≡ from new more
  pub weight : run_weight new ≡ 2 + (all_weight (shown_statements body) + around_weight old)
  pub ready : new.place ≡ Ready
  pub kept : new.kept ≡ old.kept

-- The bytes are those of the file, or they aren't for this cause.
abbrev pub Compares : Prefetch → List ℕ → Option Cause → Type 0
Compares fetch bytes None = (rest : Rest) → placing fetch bytes rest ≡ doing fetch.line false (command.Place fetch.name bytes) rest
Compares fetch bytes (Some cause) = (rest : Rest) → placing fetch bytes rest ≡ failing fetch.line true cause

-- After a line was prepared so, one step of the run is made.
abbrev pub CarriesOut : ℕ → Line → Run → Result Prepared Broken → MachineView → Option Ran → MachineView → Run → Type 0
CarriesOut line what old prepared now result after new =
    (before : MachineView) → PreparesLine old.kept.scene what before prepared now → StepsFrom (Doing line what) old before result after new

-- The program that was started is one of so many.
abbrev pub StartsBelow : ℕ → Acted → Type 0
StartsBelow started (of_act.Started process) = process.0 < started
StartsBelow started _ = ⊤

-- Where a command of a line was answered so, the run goes on from what comes after that.
pub record FollowsAct (line weight : ℕ) (started : ℕ → Rest) (old : Run) (answer : Acted) (result : Option Ran) (new : Run) : Type 0 where
  pub goes_on : result ≡ None
  pub walk : (more : List Settled) → after_act line (around old) started answer (known_in old.kept.scene) more ≡ from new more
  pub rest : new ≡ record old { place = new.place }
  pub falls : place_weight new.place < weight
  pub waits : (count : ℕ) → StartsBelow count answer → WaitsBelow count new.place
