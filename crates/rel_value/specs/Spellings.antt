-- How numbers, times and intervals are written.
use Rattle.std.specs.Prelude.{ℕ, ◌+◌, ◌*◌, ◌/◌, ◌%◌, ◌==◌, ℤ, pos, ◌+ℤ◌, ◌*ℤ◌, unsigned_abs, if◌then◌else◌, List, [], ◌∷◌, ◌++◌, codes}
use Rattle.std.specs.Fmt.{decimal}
use Rattle.std.specs.Int.{is_negative}
use Rattle.rel_value.specs.declared.calendar.CivilDate.{CivilDate}
use Rattle.rel_value.specs.Calendar.{date_after}

-- a number below 100 in two digits
abbrev pub two : ℕ → List ℕ
two n = (48 + n / 10) ∷ (48 + n % 10) ∷ []

-- HH:MM:SS
abbrev pub clock : ℕ → List ℕ
clock seconds = two (seconds / 3600) ++ 58 ∷ (two (seconds / 60 % 60) ++ 58 ∷ two (seconds % 60))

-- the day of the week so many days after a Wednesday
abbrev pub weekday : ℕ → List ℕ
weekday days =
    if days % 7 == 0 then codes "Wed" else (if days % 7 == 1 then codes "Thu" else (if days % 7 == 2 then codes "Fri" else (
    if days % 7 == 3 then codes "Sat" else (if days % 7 == 4 then codes "Sun" else (if days % 7 == 5 then codes "Mon" else codes "Tue")))))

abbrev pub month_name : ℕ → List ℕ
month_name m =
    if m == 1 then codes "Jan" else (if m == 2 then codes "Feb" else (if m == 3 then codes "Mar" else (
    if m == 4 then codes "Apr" else (if m == 5 then codes "May" else (if m == 6 then codes "Jun" else (
    if m == 7 then codes "Jul" else (if m == 8 then codes "Aug" else (if m == 9 then codes "Sep" else (
    if m == 10 then codes "Oct" else (if m == 11 then codes "Nov" else codes "Dec"))))))))))

-- DD Mmm YYYY
abbrev pub date_text : CivilDate → List ℕ
date_text d = two d.day ++ 32 ∷ (month_name d.month ++ 32 ∷ (two (d.year / 100) ++ two (d.year % 100)))

-- +HHMM, or -HHMM west of UTC
abbrev pub offset_text : ℤ → List ℕ
offset_text offset =
    (if is_negative offset then 45 else 43) ∷ (two (unsigned_abs offset / 60) ++ two (unsigned_abs offset % 60))

-- the seconds since the beginning of 1969 that a clock at the offset shows: 1969 had 365 days
abbrev pub shown_seconds : ℤ → ℤ → ℕ
shown_seconds moment offset = unsigned_abs (moment +ℤ pos 60 *ℤ offset +ℤ pos (365 * 86400))

-- Www, DD Mmm YYYY HH:MM:SS +HHMM
abbrev pub time_text : ℤ → ℤ → List ℕ
time_text moment offset =
    let seconds = shown_seconds moment offset in
    let days = seconds / 86400 in
    weekday days ++ codes ", " ++ date_text (date_after days) ++ 32 ∷ clock (seconds % 86400) ++ 32 ∷ offset_text offset

-- the days of an interval, where it has any
abbrev pub days_text : ℕ → List ℕ
days_text days = if days == 0 then [] else (if days == 1 then codes "1 day, " else decimal days ++ codes " days, ")

-- HH:MM:SS, before it the days, and before all a `-` below 0
abbrev pub interval_text : ℤ → List ℕ
interval_text z =
    (if is_negative z then 45 ∷ [] else []) ++ days_text (unsigned_abs z / 86400) ++ clock (unsigned_abs z % 86400)
