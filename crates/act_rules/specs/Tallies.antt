-- What a tally stands for.
use Rattle.std.specs.Prelude.{◌≡◌, ℕ, ◌-◌, List, length, filter, is_some}
use Rattle.act_rules.specs.declared.row.Row.{Row}
use Rattle.act_rules.specs.declared.tally.Tally.{Tally}
use Rattle.act_rules.specs.Series.{series, last_series, is_closed}

-- the rows that have ended
abbrev pub ended_rows : List Row → List Row
ended_rows rows = filter (λ row. is_some row.end) rows

-- the tally counts these rows in series: how many series they make, how many retries the last has, and whether it is closed
pub record Counts (tally : Tally) (retries : ℕ) (rows : List Row) : Type 0 where
  pub under : tally.retries ≡ retries
  pub number : tally.series ≡ length (series retries rows)
  pub last : tally.retried ≡ length (last_series (series retries rows)) - 1
  pub closed : tally.closed ≡ is_closed retries rows

-- the tally stands for these rows under this number of retries: it counts those that have ended
abbrev pub StandsFor : Tally → ℕ → List Row → Type 0
StandsFor tally retries rows = Counts tally retries (ended_rows rows)
