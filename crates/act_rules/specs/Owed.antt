-- The runs that an action owes by its rows.
use Rattle.std.specs.Prelude.{◌≡◌, ℕ, ◌+◌, ◌<◌, ℤ, ◌+ℤ◌, ◌≤ℤ◌, List, [], length, true, false, Option, IsSome, IsSomeAnd, ◌⊎◌}
use Rattle.act_rules.specs.declared.row.Row.{Row}
use Rattle.act_rules.specs.declared.rule.Rules.{Rules}
use Rattle.act_rules.specs.declared.rule.Reapply.{Reapply}
use Rattle.act_rules.specs.declared.rule.Reapply.TheVariants.{Never, Again, While}
use Rattle.act_rules.specs.Rows.{last_row}
use Rattle.act_rules.specs.Series.{series, is_closed}

-- the last row has ended, and this holds of it and of the moment of its end
abbrev pub LastEnded : List Row → (Row → ℤ → Type 0) → Type 0
LastEnded rows P = IsSomeAnd (last_row rows) (λ row. IsSomeAnd row.end (λ end. P row end.0))

-- the last row is a failure that doesn't close its series, and the wait is over
abbrev pub OwesRetry : Rules → List Row → ℤ → Type 0
OwesRetry rules rows moment =
    LastEnded rows (λ row end. (is_closed rules.retries rows ≡ false) × ((end +ℤ rules.wait) ≤ℤ moment))

-- Another series may follow this many series, the last of which ended so: reapplication is on, its limit isn't reached,
-- its wait is over, and for Again the row is cleared.
abbrev pub OwesAgain : Reapply → ℕ → Option ℤ → ℤ → ℤ → Type 0
OwesAgain Never count cleared end moment = ⊥
OwesAgain (Again limit wait) count cleared end moment =
    (count < 1 + limit) × ((end +ℤ wait) ≤ℤ moment) × IsSome cleared
OwesAgain (While limit wait) count cleared end moment =
    (count < 1 + limit) × ((end +ℤ wait) ≤ℤ moment)

-- the last row closes its series, and another one may follow
abbrev pub OwesSeries : Rules → List Row → ℤ → Type 0
OwesSeries rules rows moment =
    LastEnded rows (λ row end. (is_closed rules.retries rows ≡ true)
    × OwesAgain rules.reapply (length (series rules.retries rows)) row.cleared end moment)

-- a run is owed: the first one, a retry, or that of another series
abbrev pub IsOwed : Rules → List Row → ℤ → Type 0
IsOwed rules rows moment = (rows ≡ []) ⊎ (OwesRetry rules rows moment ⊎ OwesSeries rules rows moment)
