-- The Gregorian calendar by years, months and days in whole numbers, from 1 January 1969 on, a Wednesday: so 1 January 1970
-- was a Thursday.
use Rattle.std.specs.Prelude.{ℕ, zero, suc, ◌+◌, ◌-◌, ◌%◌, Bool, ◌&&◌, ◌||◌, not, ◌==◌, nat_lt, if◌then◌else◌, List, [], ◌∷◌}
use Rattle.rel_value.specs.declared.calendar.CivilDate.{CivilDate}

-- every fourth year, but of the centuries only every fourth
abbrev pub is_leap_year : ℕ → Bool
is_leap_year year = (year % 4 == 0) && (not (year % 100 == 0) || (year % 400 == 0))

abbrev pub days_in_year : ℕ → ℕ
days_in_year year = if is_leap_year year then 366 else 365

-- the days of the twelve months
abbrev pub month_lengths : ℕ → List ℕ
month_lengths year =
    31 ∷ (if is_leap_year year then 29 else 28) ∷ 31 ∷ 30 ∷ 31 ∷ 30 ∷ 31 ∷ 31 ∷ 30 ∷ 31 ∷ 30 ∷ 31 ∷ []

-- a month from 1 to 12, and a day from 1 on
pub record MonthDay : Type 0 where
  pub month : ℕ
  pub day : ℕ

-- Whole months are counted off the days that went by in a year: the first of these lengths is that of this month.
abbrev pub month_day : ℕ → List ℕ → ℕ → MonthDay
month_day month [] days = record { month = month; day = days + 1 }
month_day month (first ∷ later) days =
    if nat_lt days first then record { month = month; day = days + 1 }
    else month_day (month + 1) later (days - first)

abbrev pub in_year : ℕ → MonthDay → CivilDate
in_year year md = record { year = year; month = md.month; day = md.day }

-- Whole years are counted off the days that went by since the beginning of a year, at most so many.
unfoldable pub date_from : ℕ → ℕ → ℕ → CivilDate
date_from zero year days = in_year year (month_day 1 (month_lengths year) days)
date_from (suc years) year days =
    if nat_lt days (days_in_year year) then in_year year (month_day 1 (month_lengths year) days)
    else date_from years (year + 1) (days - days_in_year year)

-- the date so many days after 1 January 1969, where it lies before the year 10000
abbrev pub date_after : ℕ → CivilDate
date_after days = date_from 8030 1969 days
