-- Attempts of the code, as the attempts that they are.
use Rattle.std.specs.Prelude.{ℕ, ℤ, List, [], ◌∷◌, ⊤}
use Rattle.desk_base.specs.Moments.{IsMoment}
use Rattle.line_forms.specs.Numbers.{IsOffset}
use Rattle.rel_sources.specs.declared.pair.Pair.{Pair}
use Rattle.script_text.specs.Scripts.{PlainScript}
use Rattle.script_run.specs.Walks.{Settled}
use Rattle.script_run.specs.RunPlaces.{Stands, from, wanted_at}
use Rattle.script_run.specs.declared.run.Run.{Run}
use Rattle.fix_site.specs.declared.action.Action.{Action}
use Rattle.agent_attempt.specs.declared.attempt.Part.{Part}
use Rattle.agent_attempt.specs.declared.attempt.Stage.{Stage}
use Rattle.agent_attempt.specs.declared.attempt.Stage.TheVariants as stage
use Rattle.agent_attempt.specs.Relevance.{HasScript}
use Rattle.agent_attempt.specs.Attempts.{PlainAttempt, PlainStage, Past, coming, starting, running, judging}

-- an attempt as the code keeps it, with a script that runs as a run
pub record AttemptState : Type 0 where
  pub action : Action
  pub row : ℕ
  pub offset : ℤ
  pub left : List Part
  pub stage : Stage
  pub past : Past

-- what a stage of the code shows
abbrev pub shown_stage : Stage → PlainStage
shown_stage stage.Coming = coming
shown_stage stage.Starting = starting
shown_stage (stage.Running run) = running (from run) (wanted_at run.place)
shown_stage (stage.Judging exit) = judging exit

-- the attempt that it is
abbrev pub shown_attempt : AttemptState → PlainAttempt
shown_attempt a = record {
  action = a.action;
  row = a.row;
  offset = a.offset;
  left = a.left;
  stage = shown_stage a.stage;
  past = a.past;
}

-- the run stands somewhere in a script
abbrev pub IsRun : Run → Type 0
IsRun run = (script : PlainScript) × (given : List Pair) × (settled : List Settled) × Stands script given run settled

-- the component at hand has a script
abbrev pub FirstHasScript : List Part → Type 0
FirstHasScript [] = ⊤
FirstHasScript (part ∷ left) = HasScript part.fixlet.script

-- With these components left, one whose script has still to begin has one, and a script that runs stands somewhere in it.
abbrev pub IsStage : List Part → Stage → Type 0
IsStage left stage.Starting = FirstHasScript left
IsStage left (stage.Running run) = IsRun run
IsStage left _ = ⊤

-- An attempt was issued at a moment, began at an offset, and stands at a stage.
pub record IsAttempt (action : Action) (offset : ℤ) (left : List Part) (stage : Stage) : Type 0 where
  pub issued : IsMoment action.issued
  pub began : IsOffset offset
  pub stands : IsStage left stage
