-- The rows of an action: its attempts.
use Rattle.std.specs.Prelude.{◌≡◌, ℕ, ◌+◌, ◌-◌, ◌^◌, ◌<◌, ℤ, List, [], ◌∷◌, length, slice_get, All, Option, Some, None, IsSome, IfSome}
use Rattle.desk_base.specs.Moments.{IsMoment}
use Rattle.act_rules.specs.declared.row.Row.{Row}
use Rattle.act_rules.specs.declared.row.Outcome.{Outcome}
use Rattle.act_rules.specs.declared.row.Status.{Status}
use Rattle.act_rules.specs.declared.row.Status.TheVariants.{NotBegun, Running, Ended}

-- the last row, if there is one
abbrev pub last_row : List Row → Option Row
last_row rows = slice_get rows (length rows - 1)

-- the rows have this number, the next, and so on
abbrev pub AreNumbered : ℕ → List Row → Type 0
AreNumbered number [] = Unit {0}
AreNumbered number (row ∷ rows) = (row.number ≡ number) × AreNumbered (number + 1) rows

-- the row has ended
abbrev pub HasEnded : Row → Type 0
HasEnded row = IsSome row.end

-- each row but the last has ended
abbrev pub OnlyLastRuns : List Row → Type 0
OnlyLastRuns [] = Unit {0}
OnlyLastRuns (row ∷ []) = Unit {0}
OnlyLastRuns (row ∷ next ∷ rows) = HasEnded row × OnlyLastRuns (next ∷ rows)

-- the row began, ended and was cleared at moments
abbrev pub HasMoments : Row → Type 0
HasMoments row = IsMoment row.begun × IfSome row.end (λ end. IsMoment end.0) × IfSome row.cleared IsMoment

-- the rows of an action: numbered 1, 2 and on, and only the last may lack an end
pub record IsRows (rows : List Row) : Type 0 where
  pub few : length rows < 2 ^ 32
  pub numbered : AreNumbered 1 rows
  pub ended : OnlyLastRuns rows
  pub moments : All HasMoments rows

-- the rows of an action, and for how many there is room in all
pub record RowsState : Type 0 where
  pub rows : List Row
  pub capacity : ℕ

-- there is room for one row more
abbrev pub HasRoom : RowsState → Type 0
HasRoom state = length state.rows < state.capacity

-- the rows with the last one changed
abbrev pub with_last : List Row → (Row → Row) → List Row
with_last [] change = []
with_last (row ∷ []) change = change row ∷ []
with_last (row ∷ next ∷ rows) change = row ∷ with_last (next ∷ rows) change

-- a row stands so by its end
abbrev pub end_status : Option (ℤ × Outcome) → Status
end_status None = Running
end_status (Some end) = Ended end.1

-- the rows stand as the last one does
abbrev pub row_status : Option Row → Status
row_status None = NotBegun
row_status (Some row) = end_status row.end

-- how the attempts stand
abbrev pub status_of : List Row → Status
status_of rows = row_status (last_row rows)
