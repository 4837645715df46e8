-- Rows in series: a first attempt and the attempts that follow its failures.
use Rattle.std.specs.Prelude.{ℕ, ◌+◌, ℤ, List, [], ◌∷◌, ◌++◌, length, Bool, true, false, ◌==◌, if◌then◌else◌, Option, Some, None}
use Rattle.act_rules.specs.declared.row.Row.{Row}
use Rattle.act_rules.specs.declared.row.Outcome.{Outcome}
use Rattle.act_rules.specs.declared.row.Outcome.TheVariants.{Fixed, Failed, Interrupted}

-- Fixed closes a series, and so does a failure after which no retry is left: this many rows of the series stand before it.
abbrev pub outcome_closes : ℕ → ℕ → Outcome → Bool
outcome_closes retries before Fixed = true
outcome_closes retries before Failed = before == retries
outcome_closes retries before Interrupted = before == retries

-- an end closes a series by its outcome; a row that runs closes none
abbrev pub end_closes : ℕ → ℕ → Option (ℤ × Outcome) → Bool
end_closes retries before None = false
end_closes retries before (Some end) = outcome_closes retries before end.1

-- the row closes its series, of which this many rows stand before it
abbrev pub closes : ℕ → ℕ → Row → Bool
closes retries before row = end_closes retries before row.end

-- the series that these rows have begun, if there are any
abbrev pub begun_series : List Row → List (List Row)
begun_series [] = []
begun_series (row ∷ rows) = (row ∷ rows) ∷ []

-- the rows in series, where `front` is what the series at hand has already
abbrev pub series_after : ℕ → List Row → List Row → List (List Row)
series_after retries front [] = begun_series front
series_after retries front (row ∷ rows) =
    if closes retries (length front) row then (front ++ row ∷ []) ∷ series_after retries [] rows
    else series_after retries (front ++ row ∷ []) rows

-- the rows in series: one begins at the first row, and one after each row that closes one
abbrev pub series : ℕ → List Row → List (List Row)
series retries rows = series_after retries [] rows

-- the last series, without rows where there is none
abbrev pub last_series : List (List Row) → List Row
last_series [] = []
last_series (rows ∷ []) = rows
last_series (rows ∷ next ∷ more) = last_series (next ∷ more)

-- the last of these rows closes their series, of which this many rows stand before them
abbrev pub closed_after : ℕ → ℕ → List Row → Bool
closed_after retries before [] = false
closed_after retries before (row ∷ []) = closes retries before row
closed_after retries before (row ∷ next ∷ rows) = closed_after retries (before + 1) (next ∷ rows)

-- the last row closes its series
abbrev pub is_closed : ℕ → List Row → Bool
is_closed retries rows = closed_after retries 0 (last_series (series retries rows))
