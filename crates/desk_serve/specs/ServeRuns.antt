-- Runs of a server: conversations in their order.
use Rattle.std.specs.Prelude.{◌≡◌, ℕ, ◌+◌, ◌<◌, List, [], ◌++◌, MatchResult}
use Rattle.std.specs.declared.result.Result.{Result}
use Rattle.std.specs.Io.KnownBytes.{Appends}
use Rattle.desk_http.specs.declared.talk.Met.{Met}
use Rattle.server_core.specs.declared.limits.Limits.{Limits}
use Rattle.desk_serve.specs.declared.step.Stop.{Stop}
use Rattle.desk_serve.specs.TalkLines.{talk_line}
use Rattle.desk_serve.specs.ServeSteps.{Scene, Serves, Breaks}

-- whole conversations by how they ended, the latest last
pub data Run : Type 0 where
  Begun : Run
  Then : Run → Met → Run

-- how many there are
abbrev pub talk_count : Run → ℕ
talk_count Begun = 0
talk_count (Then run ended) = talk_count run + 1

-- the lines of the conversations, in their order
abbrev pub said : Run → List ℕ
said Begun = []
said (Then run ended) = said run ++ talk_line ended

-- each conversation begins in the scene that the one before it left
abbrev pub Runs : Limits → Scene → Run → Scene → Type 0
Runs limits old Begun new = new ≡ old
Runs limits old (Then run ended) new = (mid : Scene) × Runs limits old run mid × Serves limits mid ended new

-- whole conversations, and what is printed of them
pub record Goes (limits : Limits) (old : Scene) (run : Run) (new : Scene) : Type 0 where
  pub runs : Runs limits old run new
  pub lines : Appends old.sink.held new.sink.held (said run)

-- so many conversations were served
abbrev pub HasServed : Limits → Scene → ℕ → Scene → Type 0
HasServed limits old count new = (run : Run) × (talk_count run ≡ count) × Goes limits old run new

-- fewer were, and then a broken step ended the run
abbrev pub WasCut : Limits → Scene → ℕ → Stop → Scene → Type 0
WasCut limits old count stop new =
    (done : ℕ) × (done < count) × (mid : Scene) × HasServed limits old done mid × Breaks limits mid stop new

-- A run of so many conversations.
abbrev pub ServesAll : Limits → Scene → ℕ → Result Unit Stop → Scene → Type 0
ServesAll limits old count result new = MatchResult result (λ _. HasServed limits old count new) (λ stop. WasCut limits old count stop new)
