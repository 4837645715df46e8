-- What becomes of an attempt that is given a file.
use Rattle.std.specs.Prelude.{◌≡◌, ◌↔◌, ℕ, Bool, true, false, List, ◌∷◌, Option, Some, None, IsTrue}
use Rattle.script_run.specs.Walks.{Settled, supplied}
use Rattle.agent_attempt.specs.Attempts.{PlainAttempt, PlainStage, running}

-- the file that the last answer wanted, if it wanted one and it hasn't come
abbrev pub wanted_of : PlainStage → Option (List ℕ)
wanted_of (running rest wanted) = wanted
wanted_of _ = None

-- The script has the bytes, or that the file isn't served, as its next result.
abbrev pub StageTakes : PlainStage → Option (List ℕ) → PlainStage → Type 0
StageTakes (running rest wanted) bytes (running further later) =
    (later ≡ None) × ((more : List Settled) → further more ≡ rest (supplied bytes ∷ more))
StageTakes _ bytes _ = ⊥

-- It is taken where that file is wanted; otherwise nothing changes.
abbrev pub Takes : PlainAttempt → Option (List ℕ) → Bool → PlainAttempt → Type 0
Takes old bytes true new = (new ≡ record old { stage = new.stage }) × StageTakes old.stage bytes new.stage
Takes old bytes false new = new ≡ old

abbrev pub Supplies : PlainAttempt → List ℕ → Option (List ℕ) → Bool → PlainAttempt → Type 0
Supplies old digest bytes answer new = (IsTrue answer ↔ (wanted_of old.stage ≡ Some digest)) × Takes old bytes answer new
