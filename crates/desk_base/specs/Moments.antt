-- Moments, and what asking a clock does to those that it gave, where these are told.
use Rattle.std.specs.Prelude.{◌≡◌, ◌^◌, ℤ, pos, ◌≤ℤ◌, List, [], ◌∷◌, ◌++◌, ⊤, None, Some}
use Rattle.std.specs.declared.option.Option.{Option}
use Rattle.desk_base.specs.Counts.{CountsFaults}
use Rattle.desk_base.specs.Views.{ClockView}
use Rattle.desk_base.specs.declared.clock.Told.{Told}
use Rattle.desk_base.specs.declared.clock.Told.TheVariants.{Moment, Failed}

-- seconds since 1970-01-01 00:00:00 UTC, from 0 to 137,438,953,472
abbrev pub IsMoment : ℤ → Type 0
IsMoment seconds = (pos 0 ≤ℤ seconds) × (seconds ≤ℤ pos (2 ^ 37))

-- Known moments grow by these.
abbrev pub AppendsMoments : Option (List ℤ) → Option (List ℤ) → List ℤ → Type 0
AppendsMoments None new more = ⊤
AppendsMoments (Some xs) None more = ⊥
AppendsMoments (Some xs) (Some ys) more = ys ≡ xs ++ more

-- What one question for the moment does: a moment was given, or none.
abbrev pub Tells : Option (List ℤ) → Option (List ℤ) → Told → Type 0
Tells old new (Moment seconds) = IsMoment seconds × AppendsMoments old new (seconds ∷ [])
Tells old new Failed = AppendsMoments old new []

-- A clock was asked for the moment and answered so.
pub record AsksMoment (old : ClockView) (answer : Told) (new : ClockView) : Type 0 where
  pub tells : Tells old.given new.given answer
  pub counts : CountsFaults (answer ≡ Failed) old.faults new.faults
