-- Rows that an action's rules allow.
use Rattle.std.specs.Prelude.{◌≡◌, ℕ, ◌+◌, ◌≤◌, List, ◌∷◌, ◌++◌, length, All}
use Rattle.act_rules.specs.declared.row.Row.{Row}
use Rattle.act_rules.specs.declared.rule.Rules.{Rules}
use Rattle.act_rules.specs.declared.rule.Reapply.{Reapply}
use Rattle.act_rules.specs.declared.rule.Reapply.TheVariants.{Never, Again, While}
use Rattle.act_rules.specs.Owed.{IsOwed}

-- each row began when the rows before it, as they stand, owed a run
abbrev pub AreLawful : Rules → List Row → Type 0
AreLawful rules rows =
    (before after : List Row) (row : Row) → rows ≡ before ++ row ∷ after → IsOwed rules before row.begun

-- the most series that there can be
abbrev pub most_series : Reapply → ℕ
most_series Never = 1
most_series (Again limit wait) = 1 + limit
most_series (While limit wait) = 1 + limit

-- no series has more rows than the first and its retries, and there are no more series than the first and those that may
-- follow
abbrev pub AreBounded : Rules → List (List Row) → Type 0
AreBounded rules all = All (λ rows. length rows ≤ 1 + rules.retries) all × (length all ≤ most_series rules.reapply)
