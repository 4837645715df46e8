-- An upstream round of a relay.
use Rattle.std.specs.Prelude.{◌≡◌, ◌≢◌, ℕ, List, ◌++◌, MatchResult}
use Rattle.std.specs.declared.result.Result.{Result}
use Rattle.std.specs.declared.alloc.AllocError.{AllocError}
use Rattle.relay_core.specs.Relays.{RelayState}
use Rattle.desk_rounds.specs.declared.part.Next.{Next}
use Rattle.desk_rounds.specs.declared.part.Next.TheVariants as next
use Rattle.desk_rounds.specs.Clients.{At, at_rest, relay_client}
use Rattle.desk_rounds.specs.Gathering.{GathersAll}
use Rattle.desk_rounds.specs.Lines.{Line, lines_text}
use Rattle.desk_rounds.specs.Parts.{DoesBoth, Part}
use Rattle.desk_rounds.specs.Posting.{PostsAll}

-- The newer sites are gathered, and then the queued reports are posted.
abbrev pub RelayRound : Part (At RelayState)
RelayRound old then lines new =
    (last : At RelayState) × DoesBoth (GathersAll relay_client) (PostsAll relay_client) old then lines last × (new ≡ at_rest last)

-- A whole round was made, and its lines were appended.
pub record MakesRelayRound (old : At RelayState) (before : List ℕ) (new : At RelayState) (after : List ℕ) : Type 0 where
  pub then : Next
  pub lines : List Line
  pub whole : then ≢ next.Memory
  pub round : RelayRound old then lines new
  pub printed : after ≡ before ++ lines_text lines

-- A round was made, or as much of it as there was memory for.
abbrev pub EndsRelayRound : At RelayState → List ℕ → Result Unit AllocError → At RelayState → List ℕ → Type 0
EndsRelayRound old before result new after =
    MatchResult result (λ _. MakesRelayRound old before new after) (λ _. (lines : List Line) × RelayRound old next.Memory lines new)
