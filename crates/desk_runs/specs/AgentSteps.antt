-- The steps of an agent: rounds with their lines, and the broken one that ends a run.
use Rattle.std.specs.Prelude.{◌≡◌, List}
use Rattle.desk_base.specs.Flow.{Writes}
use Rattle.desk_base.specs.Views.{SinkView}
use Rattle.desk_base.specs.declared.sink.Put.{Put}
use Rattle.desk_base.specs.declared.sink.Put.TheVariants as put
use Rattle.desk_rounds.specs.declared.agent_rounds.Rounder.{Rounder}
use Rattle.desk_rounds.specs.declared.agent_rounds.RoundEnd.{RoundEnd}
use Rattle.desk_rounds.specs.declared.agent_rounds.RoundEnd.TheVariants as end
use Rattle.desk_rounds.specs.AgentRounds.{AgentPoint, AgentRound}
use Rattle.desk_rounds.specs.Lines.{Line, lines_text}
use Rattle.desk_runs.specs.declared.rounding.AgentStop.{AgentStop}
use Rattle.desk_runs.specs.declared.rounding.AgentStop.TheVariants as stop

-- what the rounds go on, and what the sink tells
pub record AgentScene : Type 0 where
  pub point : AgentPoint
  pub sink : SinkView

abbrev pub agent_scene : AgentPoint → SinkView → AgentScene
agent_scene point sink = record { point = point; sink = sink }

-- A whole round was made, and the sink answered so when its lines were to be written.
pub record TellsRound (rounder : Rounder) (old : AgentScene) (answer : Put) (lines : List Line) (new : AgentScene) : Type 0 where
  pub round : AgentRound rounder old.point end.Done lines new.point
  pub writes : Writes (lines_text lines) old.sink answer new.sink

-- A round broke off, ending so. Nothing of it was written.
pub record LeavesRound (rounder : Rounder) (old : AgentScene) (ended : RoundEnd) (new : AgentScene) : Type 0 where
  pub lines : List Line
  pub round : AgentRound rounder old.point ended lines new.point
  pub sink : new.sink ≡ old.sink

-- The broken round: the clock gave no moment, a save failed, memory ran out, or the sink failed.
abbrev pub BreaksRound : Rounder → AgentScene → AgentStop → AgentScene → Type 0
BreaksRound rounder old stop.Clock new = LeavesRound rounder old end.ClockFault new
BreaksRound rounder old stop.Pocket new = LeavesRound rounder old end.PocketFault new
BreaksRound rounder old stop.Memory new = LeavesRound rounder old end.Memory new
BreaksRound rounder old stop.Sink new = (lines : List Line) × TellsRound rounder old put.Failed lines new
