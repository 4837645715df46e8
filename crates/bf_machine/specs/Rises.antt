-- By how much a count rose.
use Rattle.std.specs.Prelude.{◌≡◌, ℕ, ◌+◌, ◌-◌, ◌^◌, ◌≤◌, max, min}

-- A count rose by at least so many, or stands still at its last value.
abbrev pub RoseBy : ℕ → ℕ → ℕ → Type 0
RoseBy times before now = max before (min (before + times) (2 ^ 64 - 1)) ≤ now

-- So many calls failed: the count of faults rose by at least as many, or stands still at its last value, and it stayed where none did.
pub record CountsFailed (failed old new : ℕ) : Type 0 where
  pub rose : RoseBy failed old new
  pub steady : failed ≡ 0 → new ≡ old
