-- Runs of a relay: an upstream round, and then conversations in their order, each with a round after it.
use Rattle.std.specs.Prelude.{◌≡◌, ◌⊎◌, ℕ, ◌+◌, ◌<◌, List, ◌++◌, MatchResult}
use Rattle.std.specs.declared.result.Result.{Result}
use Rattle.std.specs.Io.KnownBytes.{Appends}
use Rattle.desk_base.specs.declared.sink.Put.TheVariants as put
use Rattle.desk_http.specs.declared.talk.Met.{Met}
use Rattle.desk_rounds.specs.Lines.{Line, lines_text}
use Rattle.desk_serve.specs.declared.step.Stop.{Stop}
use Rattle.desk_serve.specs.TalkLines.{talk_line}
use Rattle.desk_runs.specs.RelaySteps.{BreaksRound, BreaksTalk, RelayScene, TellsRound, TellsTalk}

-- whole steps, the latest last
pub data RelayRun : Type 0 where
  -- the first round, of which these lines are printed
  Begun : List Line → RelayRun
  -- behind them a conversation that ended so, and the round after it
  Then : RelayRun → Met → List Line → RelayRun

-- how many conversations there are
abbrev pub talk_count : RelayRun → ℕ
talk_count (Begun lines) = 0
talk_count (Then run ended lines) = talk_count run + 1

-- the lines of the steps, in their order
abbrev pub said : RelayRun → List ℕ
said (Begun lines) = lines_text lines
said (Then run ended lines) = said run ++ (talk_line ended ++ lines_text lines)

-- A whole conversation ended so, and a whole round was made after it.
abbrev pub TellsBoth : RelayScene → Met → List Line → RelayScene → Type 0
TellsBoth old ended lines new = (mid : RelayScene) × TellsTalk old put.Done ended mid × TellsRound mid put.Done lines new

-- each step begins in the scene that the one before it left
abbrev pub Runs : RelayScene → RelayRun → RelayScene → Type 0
Runs old (Begun lines) new = TellsRound old put.Done lines new
Runs old (Then run ended lines) new = (mid : RelayScene) × Runs old run mid × TellsBoth mid ended lines new

-- whole steps, and what is printed of them
pub record Goes (old : RelayScene) (run : RelayRun) (new : RelayScene) : Type 0 where
  pub runs : Runs old run new
  pub lines : Appends old.sink.held new.sink.held (said run)

-- so many conversations were held, with a round before the first and one after each
abbrev pub HasRelayed : RelayScene → ℕ → RelayScene → Type 0
HasRelayed old count new = (run : RelayRun) × (talk_count run ≡ count) × Goes old run new

-- the next conversation broke, or it is whole and the round after it broke
abbrev pub BreaksNext : RelayScene → Stop → RelayScene → Type 0
BreaksNext old stop new =
    BreaksTalk old stop new
    ⊎ ((ended : Met) × (mid : RelayScene) × TellsTalk old put.Done ended mid × BreaksRound mid stop new)

-- the first round broke, or after fewer conversations a later step
abbrev pub WasCut : RelayScene → ℕ → Stop → RelayScene → Type 0
WasCut old count stop new =
    BreaksRound old stop new
    ⊎ ((done : ℕ) × (done < count) × (mid : RelayScene) × HasRelayed old done mid × BreaksNext mid stop new)

-- A run of so many conversations.
abbrev pub RelaysAll : RelayScene → ℕ → Result Unit Stop → RelayScene → Type 0
RelaysAll old count result new = MatchResult result (λ _. HasRelayed old count new) (λ stop. WasCut old count stop new)

-- ---- Only private functions cite these definitions.
-- a round: a whole one with its lines, or the broken one
abbrev pub RoundsNext : RelayScene → Result Unit Stop → RelayScene → Type 0
RoundsNext old result new =
    MatchResult result (λ _. (lines : List Line) × TellsRound old put.Done lines new) (λ stop. BreaksRound old stop new)

-- a conversation: a whole one with its line, or the broken one
abbrev pub TalksNext : RelayScene → Result Unit Stop → RelayScene → Type 0
TalksNext old result new =
    MatchResult result (λ _. (ended : Met) × TellsTalk old put.Done ended new) (λ stop. BreaksTalk old stop new)

-- both, or the first of them that broke
abbrev pub GoesNext : RelayScene → Result Unit Stop → RelayScene → Type 0
GoesNext old result new =
    MatchResult result (λ _. (ended : Met) × (lines : List Line) × TellsBoth old ended lines new) (λ stop. BreaksNext old stop new)
