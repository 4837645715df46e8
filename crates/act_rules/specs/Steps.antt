-- What steps of the code do, and the numbers they can be given. Only private functions cite these definitions.
use Rattle.std.specs.Prelude.{ℕ, ◌+◌, ◌^◌, ◌<◌, ℤ, pos, negsuc, ◌+ℤ◌, ◌≤ℤ◌, List, ◌++◌, length, IsSomeAnd, MatchBool}
use Rattle.act_rules.specs.declared.row.Row.{Row}
use Rattle.act_rules.specs.declared.rule.Rules.{Rules}
use Rattle.act_rules.specs.declared.tally.Tally.{Tally}
use Rattle.act_rules.specs.Owed.{OwesAgain}
use Rattle.act_rules.specs.Tallies.{Counts}

-- the number is near 0, so that a sum with it is not too large
abbrev pub IsWithin : ℕ → ℤ → Type 0
IsWithin bound number = (negsuc bound ≤ℤ number) × (number ≤ℤ pos bound)

-- counting these rows makes a tally of the rows before them one of all
abbrev pub AddsRows : Tally → Tally → List Row → Type 0
AddsRows old new more =
    (retries : ℕ) (rows : List Row) → length rows + 1 < 2 ^ 32 → Counts old retries rows
    → Counts new retries (rows ++ more)

-- a run is owed after a last row, by what the tally counts
abbrev pub OwesAfter : Rules → Tally → Row → ℤ → Type 0
OwesAfter rules tally row moment =
    IsSomeAnd row.end (λ end. MatchBool tally.closed
    (OwesAgain rules.reapply tally.series row.cleared end.0 moment) ((end.0 +ℤ rules.wait) ≤ℤ moment))
