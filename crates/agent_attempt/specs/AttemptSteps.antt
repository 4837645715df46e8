-- What the steps of an attempt do. Only private functions cite these definitions.
use Rattle.std.specs.Prelude.{ℕ, ℤ, ◌+◌, ◌*◌, ◌<◌, List, [], ◌∷◌, length, Option, Some, None, Ok, ⊤, IfSome}
use Rattle.rel_sources.specs.declared.pair.Pair.{Pair}
use Rattle.script_text.specs.Scripts.{PlainScript, IsVerdict}
use Rattle.script_run.specs.declared.cause.Cause.{Cause}
use Rattle.script_run.specs.declared.ran.Ran.{Ran}
use Rattle.script_run.specs.declared.ran.Ran.TheVariants as ran
use Rattle.script_run.specs.declared.run.Run.{Run}
use Rattle.script_run.specs.Walks.{Walk}
use Rattle.script_run.specs.Asking.{When}
use Rattle.bf_machine.specs.Views.{MachineView}
use Rattle.script_run.specs.RunPlaces.{Stands}
use Rattle.agent_attempt.specs.declared.found.Found.{Found}
use Rattle.agent_attempt.specs.declared.attempt.Part.{Part}
use Rattle.agent_attempt.specs.declared.attempt.Stage.{Stage}
use Rattle.agent_attempt.specs.declared.attempt.Stage.TheVariants as stage
use Rattle.agent_attempt.specs.declared.went.Went.{Went}
use Rattle.agent_attempt.specs.Attempts.{PlainAttempt, PlainStage, Past, StageWaitsBelow, coming, starting, running, judging}
use Rattle.agent_attempt.specs.Going.{Going, AfterComing, AfterRun, Fails, FromLeft, GoesOn, HasNote, SameAttempt, Through, held_after}

-- One step of what goes on so, from what the attempt has come to: it stops with an answer; or however the attempt goes on from there,
-- this goes on so.
abbrev pub StepsBy : When → Going → Past → MachineView → Option Went → MachineView → PlainAttempt → Type 0
StepsBy at going past before (Some answer) now new = going past before answer now (held_after answer new)
StepsBy at going past before None now new =
    (answer : Went) (later : MachineView) (after : Option PlainAttempt)
    → GoesOn at new now answer later after → going past before answer later after

-- One step of a component that was found so relevant, that fails so, or whose script went on, came to this and is this walk now.
abbrev pub StepsByFound : When → PlainAttempt → Part → List Part → Found → MachineView → Option Went → PlainAttempt → Type 0
StepsByFound at a part left found machine answer new =
    StepsBy at (AfterComing at a part left (Through at a left) found) a.past machine answer machine new

abbrev pub StepsByFailing : When → PlainAttempt → Part → List Part → ℕ → Cause → Option ℤ → MachineView → Option Went → PlainAttempt
    → Type 0
StepsByFailing at a part left line cause exit machine answer new =
    StepsBy at (Fails a part line cause exit (Through at a left)) a.past machine answer machine new

abbrev pub StepsByRan : When → PlainAttempt → Part → List Part → Ran → Walk → MachineView → Option Went → PlainAttempt → Type 0
StepsByRan at a part left came walk machine answer new =
    StepsBy at (AfterRun at a part left (Through at a left) came walk) a.past machine answer machine new

-- an attempt at a stage
abbrev pub with_stage : PlainStage → PlainAttempt → PlainAttempt
with_stage stage a = record a { stage = stage }

-- One step of an attempt.
abbrev pub StepsTo : When → PlainAttempt → MachineView → Option Went → MachineView → PlainAttempt → Type 0
StepsTo at old before answer now new =
    StepsBy at (FromLeft at old old.left) old.past before answer now new

-- The run stands before the first line of the script of these lines, with these parameters.
abbrev pub OpensRun : List (List ℕ) → List Pair → Run → Type 0
OpensRun lines given run = (script : PlainScript) × IsVerdict lines (Ok script) × Stands script given run []

-- the stage of a component whose script went on and came to this, has this exit code, and is that run now
abbrev pub stage_behind : Ran → Option ℤ → Run → Stage
stage_behind ran.Done exit run = stage.Judging exit
stage_behind (ran.Failed line cause) exit run = stage.Coming
stage_behind _ exit run = stage.Running run

-- the position of the component at hand
abbrev pub first_component : List Part → ℕ
first_component [] = 0
first_component (part ∷ left) = part.component

-- ---- that it comes to an end
-- how many steps a component has still to make at a stage, and an attempt, at most
abbrev pub stage_weight : PlainStage → ℕ
stage_weight coming = 3
stage_weight starting = 2
stage_weight (running rest wanted) = 1
stage_weight (judging exit) = 0

abbrev pub weight_of : PlainAttempt → ℕ
weight_of a = 4 * length a.left + stage_weight a.stage

-- Where there is no answer, less is left.
abbrev pub Falls : Option Went → ℕ → ℕ → Type 0
Falls None old new = new < old
Falls (Some answer) old new = ⊤

-- ---- what functions say of a step
-- What a step leaves, of which at most so many were still to be made: the same attempt, with the note of its failure where it has ended.
pub record Leaves (old : PlainAttempt) (weight : ℕ) (answer : Option Went) (new : PlainAttempt) : Type 0 where
  pub note : IfSome answer HasNote
  pub same : SameAttempt old new
  pub falls : Falls answer weight (weight_of new)

-- A step was made, and the program that the attempt waits for then is one that the machine started.
pub record MakesStep (at : When) (old : PlainAttempt) (before : MachineView) (answer : Option Went) (now : MachineView)
    (new : PlainAttempt) : Type 0 where
  pub steps : StepsTo at old before answer now new
  pub waits : StageWaitsBelow now.started new.stage
  pub leaves : Leaves old (weight_of old) answer new
