-- Counts of faults and calls. A count is a u64 that stands still at its last value.
use Rattle.std.specs.Prelude.{◌≡◌, Bool, true, false, ℕ, ◌+◌, ◌-◌, ◌^◌, ◌≤◌, min, max, ⊤, None, Some}
use Rattle.std.specs.declared.option.Option.{Option}

-- a count that went up by one, or stands still
abbrev pub one_more : ℕ → ℕ
one_more count = max count (min (count + 1) (2 ^ 64 - 1))

-- A count went up, or stands still.
abbrev pub Rose : ℕ → ℕ → Type 0
Rose before now = one_more before ≤ now

-- The count of faults rose if a call failed, and else stayed.
abbrev pub CountsIf : Bool → ℕ → ℕ → Type 0
CountsIf true old new = Rose old new
CountsIf false old new = new ≡ old

-- The count of faults rose where a call failed, and stayed where it did not.
pub record CountsFaults (failed : Type 0) (old new : ℕ) : Type 0 where
  pub rose : failed → Rose old new
  pub steady : ¬ failed → new ≡ old
  pub later : old ≤ new

-- A known count went up by one.
abbrev pub CountsOne : Option ℕ → Option ℕ → Type 0
CountsOne None new = ⊤
CountsOne (Some m) None = ⊥
CountsOne (Some m) (Some n) = n ≡ one_more m

-- A known count went up by at most so many.
abbrev pub CountsAtMost : Option ℕ → Option ℕ → ℕ → Type 0
CountsAtMost None new most = ⊤
CountsAtMost (Some m) None most = ⊥
CountsAtMost (Some m) (Some n) most = (m ≤ n) × (n ≤ m + most)
