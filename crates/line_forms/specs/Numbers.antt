-- Numbers as texts: decimal digits without leading zeros. Below 0 a `-` stands before them, and 0 has none.
use Rattle.std.specs.Prelude.{◌≡◌, ℕ, ◌^◌, ◌≤◌, ℤ, pos, negsuc, ◌≤ℤ◌, List, decimal}
use Rattle.std.specs.Fmt.{signed_decimal}
use Rattle.desk_base.specs.Moments.{IsMoment}

-- the text is this number, from 0 to most
abbrev pub IsNumber : ℕ → List ℕ → ℕ → Type 0
IsNumber most text number = (number ≤ most) × (text ≡ decimal number)

-- the last id, the last version of a site and the last number of a report
abbrev pub last_id : ℕ
last_id = 2 ^ 53

-- an id, or the version of a site, or the number of a report
abbrev pub IsId : ℕ → Type 0
IsId number = (1 ≤ number) × (number ≤ last_id)

-- the text is this number, from least to most
abbrev pub IsSignedNumber : ℤ → ℤ → List ℕ → ℤ → Type 0
IsSignedNumber least most text number =
    (least ≤ℤ number) × (number ≤ℤ most) × (text ≡ signed_decimal number)

-- minutes east of UTC, from -840 to 840
abbrev pub IsOffset : ℤ → Type 0
IsOffset minutes = (negsuc 839 ≤ℤ minutes) × (minutes ≤ℤ pos 840)

-- the text is this moment, in seconds since 1970-01-01 00:00:00 UTC
abbrev pub IsMomentText : List ℕ → ℤ → Type 0
IsMomentText text moment = IsMoment moment × (text ≡ signed_decimal moment)

-- the text is this offset
abbrev pub IsOffsetText : List ℕ → ℤ → Type 0
IsOffsetText text offset = IsOffset offset × (text ≡ signed_decimal offset)
