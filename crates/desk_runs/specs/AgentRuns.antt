-- Runs of an agent: rounds in their order.
use Rattle.std.specs.Prelude.{◌≡◌, ℕ, ◌+◌, ◌<◌, List, [], ◌++◌, MatchResult}
use Rattle.std.specs.declared.result.Result.{Result}
use Rattle.std.specs.Io.KnownBytes.{Appends}
use Rattle.desk_base.specs.declared.sink.Put.TheVariants as put
use Rattle.desk_rounds.specs.declared.agent_rounds.Rounder.{Rounder}
use Rattle.desk_rounds.specs.Lines.{Line, lines_text}
use Rattle.desk_runs.specs.declared.rounding.AgentStop.{AgentStop}
use Rattle.desk_runs.specs.AgentSteps.{AgentScene, BreaksRound, TellsRound}

-- whole rounds by the lines that are printed of them, the latest last
pub data AgentRun : Type 0 where
  Begun : AgentRun
  Then : AgentRun → List Line → AgentRun

-- how many there are
abbrev pub round_count : AgentRun → ℕ
round_count Begun = 0
round_count (Then run lines) = round_count run + 1

-- the lines of the rounds, in their order
abbrev pub said : AgentRun → List ℕ
said Begun = []
said (Then run lines) = said run ++ lines_text lines

-- each round begins in the scene that the one before it left
abbrev pub Runs : Rounder → AgentScene → AgentRun → AgentScene → Type 0
Runs rounder old Begun new = new ≡ old
Runs rounder old (Then run lines) new =
    (mid : AgentScene) × Runs rounder old run mid × TellsRound rounder mid put.Done lines new

-- whole rounds, and what is printed of them
pub record Goes (rounder : Rounder) (old : AgentScene) (run : AgentRun) (new : AgentScene) : Type 0 where
  pub runs : Runs rounder old run new
  pub lines : Appends old.sink.held new.sink.held (said run)

-- so many rounds were made
abbrev pub HasMade : Rounder → AgentScene → ℕ → AgentScene → Type 0
HasMade rounder old count new = (run : AgentRun) × (round_count run ≡ count) × Goes rounder old run new

-- fewer were, and then a broken one ended the run
abbrev pub WasCut : Rounder → AgentScene → ℕ → AgentStop → AgentScene → Type 0
WasCut rounder old count stop new =
    (done : ℕ) × (done < count) × (mid : AgentScene) × HasMade rounder old done mid × BreaksRound rounder mid stop new

-- A run of so many rounds.
abbrev pub MakesAll : Rounder → AgentScene → ℕ → Result Unit AgentStop → AgentScene → Type 0
MakesAll rounder old count result new =
    MatchResult result (λ _. HasMade rounder old count new) (λ stop. WasCut rounder old count stop new)

-- a round: a whole one with its lines, or the broken one; only a private function cites this
abbrev pub RoundsNext : Rounder → AgentScene → Result Unit AgentStop → AgentScene → Type 0
RoundsNext rounder old result new =
    MatchResult result (λ _. (lines : List Line) × TellsRound rounder old put.Done lines new) (λ stop. BreaksRound rounder old stop new)
