-- Runs of an agent grow by whole rounds, and end at a broken one.
use Rattle.std.proofs.Common.{◌≡◌, ◌<◌, ℕ, ◌+◌, List, Ok, Err, refl, sym, ap, subst}
use Rattle.std.proofs.KnownBytes.{Appends-nil, Appends-trans}
use Rattle.desk_base.specs.Views.{SinkView, ClockView}
use Rattle.desk_base.specs.declared.sink.Put.TheVariants as put
use Rattle.desk_door.specs.Links.{LinkView}
use Rattle.agent_state.specs.States.{State}
use Rattle.agent_core.specs.Devices.{Devices}
use Rattle.desk_rounds.specs.declared.agent_rounds.Rounder.{Rounder}
use Rattle.desk_rounds.specs.AgentRounds.{agent_point}
use Rattle.desk_rounds.specs.Lines.{Line, lines_text}
use Rattle.desk_runs.specs.declared.rounding.AgentStop.{AgentStop}
use Rattle.desk_runs.specs.AgentRuns.{AgentRun, Begun, Goes, HasMade, MakesAll, RoundsNext, Then, said}
use Rattle.desk_runs.specs.AgentSteps.{AgentScene, TellsRound, agent_scene}

module _ (rounder : Rounder) where
  goes_then : (old mid new : AgentScene) (run : AgentRun) (lines : List Line) → Goes rounder old run mid → TellsRound rounder mid put.Done lines new → Goes rounder old (Then run lines) new
  goes_then old mid new run lines goes tells = record {
    runs = (mid, goes.runs, tells);
    lines = Appends-trans old.sink.held mid.sink.held new.sink.held (said run) (lines_text lines) goes.lines tells.writes.puts;
  }

  pub made_none : (old : AgentScene) → HasMade rounder old 0 old
  made_none old = (Begun, refl, record { runs = refl; lines = Appends-nil old.sink.held })

  pub made_more : (count : ℕ) (old mid new : AgentScene) (u : Unit) → HasMade rounder old count mid → RoundsNext rounder mid (Ok u) new → HasMade rounder old (count + 1) new
  made_more count old mid new u (run, is, goes) (lines, tells) = (Then run lines, ap (λ n. n + 1) is, goes_then old mid new run lines goes tells)

  pub made_cut : (count done : ℕ) (old mid new : AgentScene) (stop : AgentStop) → done < count → HasMade rounder old done mid → RoundsNext rounder mid (Err stop) new → MakesAll rounder old count (Err stop) new
  made_cut count done old mid new stop below made broken = (done, below, mid, made, broken)

  -- a pause of the link leaves what it tells
  pub made_paused : (count : ℕ) (old : AgentScene) (agent : State) (link link' : LinkView) (d : Devices) (clock : ClockView) (sink : SinkView) → link' ≡ link
      → HasMade rounder old count (agent_scene (agent_point agent link d clock) sink) → HasMade rounder old count (agent_scene (agent_point agent link' d clock) sink)
  made_paused count old agent link link' d clock sink same made =
      let Made : LinkView → Type 0 = λ l. HasMade rounder old count (agent_scene (agent_point agent l d clock) sink) in subst Made (sym same) made
