-- How many files an attempt can still want.
use Rattle.std.specs.Prelude.{◌≡◌, ℕ, ◌+◌, ◌≤◌, List, [], ◌∷◌, length, sum_by, ⊤, Ok}
use Rattle.script_text.specs.Scripts.{PlainScript, IsVerdict}
use Rattle.script_run.specs.Walks.{Next, Wants, Settled, Walk}
use Rattle.agent_attempt.specs.declared.attempt.Part.{Part}
use Rattle.agent_attempt.specs.Attempts.{PlainAttempt, PlainStage, running, judging}

abbrev pub want_in : Next → ℕ
want_in (Wants line digest) = 1
want_in _ = 0

-- how many files are wanted on the way over these results
abbrev pub wants_in : Walk → List Settled → ℕ
wants_in walk [] = want_in (walk []).next
wants_in walk (result ∷ results) = want_in (walk []).next + wants_in (λ more. walk (result ∷ more)) results

-- whatever the results, at most so many files are wanted
abbrev pub WantsAtMost : Walk → ℕ → Type 0
WantsAtMost walk most = (results : List Settled) → wants_in walk results ≤ most

-- the script of a component has at most so many prefetch lines
abbrev pub FetchesAtMost : Part → ℕ → Type 0
FetchesAtMost part most =
    (script : PlainScript) → IsVerdict part.fixlet.script (Ok script) → length script.prefetches ≤ most

-- components of which each has at most the number of prefetch lines that stands beside it
abbrev pub AllFetchAtMost : List Part → List ℕ → Type 0
AllFetchAtMost [] most = ⊤
AllFetchAtMost (part ∷ left) [] = ⊥
AllFetchAtMost (part ∷ left) (most ∷ mosts) = FetchesAtMost part most × AllFetchAtMost left mosts

-- what the stage of the component at hand can still want
abbrev pub StageWantsAtMost : List Part → PlainStage → ℕ → Type 0
StageWantsAtMost left (running rest wanted) most = WantsAtMost rest most
StageWantsAtMost left (judging exit) most = ⊤
StageWantsAtMost [] stage most = ⊤
StageWantsAtMost (part ∷ left) stage most = FetchesAtMost part most

abbrev pub tail_of : List Part → List Part
tail_of [] = []
tail_of (part ∷ left) = left

-- an attempt can still want at most so many files: those of the component at hand and of those behind it
abbrev pub AttemptWantsAtMost : PlainAttempt → ℕ → Type 0
AttemptWantsAtMost a most =
    (first : ℕ) × (rest : List ℕ) × StageWantsAtMost a.left a.stage first × AllFetchAtMost (tail_of a.left) rest
    × (most ≡ first + sum_by (λ n. n) rest)
