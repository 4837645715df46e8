-- The window of an action: the moments at which it may begin.
use Rattle.std.specs.Prelude.{ℕ, ◌/◌, ◌<◌, ◌≤◌, ℤ, pos, ◌+ℤ◌, ◌-ℤ◌, ◌*ℤ◌, ◌<ℤ◌, ◌≤ℤ◌, Bool, false, IsTrue, if◌then◌else◌, List, Option, Some, None, IfSome, ◌⊎◌}
use Rattle.std.specs.Int.{int_div_euclid, int_rem_euclid}
use Rattle.std.specs.Int.RustNames.{unsigned_abs}
use Rattle.std.specs.List.{slice_index_or}
use Rattle.act_rules.specs.declared.rule.Rules.{Rules}
use Rattle.act_rules.specs.declared.rule.Hours.{Hours}

-- a moment in local time, this many minutes east of UTC
abbrev pub local_time : ℤ → ℤ → ℤ
local_time moment offset = moment +ℤ (pos 60 *ℤ offset)

-- the number of a day, counted from 1970-01-01: the quotient, rounded down
abbrev pub day_of : ℤ → ℤ
day_of local = int_div_euclid local (pos 86400)

-- the minute of the day, from 0 to 1439
abbrev pub minute_of : ℤ → ℕ
minute_of local = unsigned_abs (int_rem_euclid local (pos 86400)) / 60

-- the weekday of a day, from Monday, which is 0. Day 0 is a Thursday.
abbrev pub weekday : ℤ → ℕ
weekday day = unsigned_abs (int_rem_euclid (day +ℤ pos 3) (pos 7))

-- the weekday of this day is allowed
abbrev pub IsAllowed : List Bool → ℤ → Type 0
IsAllowed days day = IsTrue (slice_index_or days (weekday day) false)

-- Hours within a day are open on an allowed day. Hours over midnight are open from an allowed day's evening into the next
-- morning.
abbrev pub AreOpen : Hours → List Bool → ℤ → ℕ → Type 0
AreOpen hours days day minute =
    ((hours.from < hours.to) × IsAllowed days day × (hours.from ≤ minute) × (minute < hours.to))
    ⊎ (((hours.to < hours.from) × IsAllowed days day × (hours.from ≤ minute))
    ⊎ ((hours.to < hours.from) × IsAllowed days (day -ℤ pos 1) × (minute < hours.to)))

-- the day and the minute are in the hours, or in the allowed days where there are no hours
abbrev pub IsInHours : Option Hours → List Bool → ℤ → ℕ → Type 0
IsInHours None days day minute = IsAllowed days day
IsInHours (Some hours) days day minute = AreOpen hours days day minute

-- the time that is compared with the start and the end
abbrev pub mark_of : Rules → ℤ → ℤ → ℤ
mark_of rules moment local = if rules.client then local else moment

-- The action may begin at this moment, at which the local time is `local`: it has started, it hasn't ended, and the local day
-- and minute are in its hours.
pub record IsOpenAt (rules : Rules) (moment local : ℤ) : Type 0 where
  pub started : IfSome rules.start (λ start. start ≤ℤ mark_of rules moment local)
  pub going : IfSome rules.until (λ until. mark_of rules moment local <ℤ until)
  pub hours : IsInHours rules.hours rules.days (day_of local) (minute_of local)

-- the action may begin at this moment and offset
abbrev pub IsInWindow : Rules → ℤ → ℤ → Type 0
IsInWindow rules moment offset = IsOpenAt rules moment (local_time moment offset)
