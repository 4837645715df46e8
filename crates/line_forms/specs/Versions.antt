-- Versions: one to four numbers joined by `.`.
use Rattle.std.specs.Prelude.{◌≡◌, ℕ, ◌^◌, ◌<◌, ◌≤◌, List, length, map, All}
use Rattle.std.specs.List.{join_with_byte}
use Rattle.std.specs.Str.Parse.{IsNumeral, digits_value}

-- a number of 32 bits in decimal digits; leading zeros are allowed
abbrev pub IsVersionNumber : List ℕ → Type 0
IsVersionNumber digits = IsNumeral 10 digits × (digits_value 10 digits < 2 ^ 32)

-- the text is one to four such numbers joined by `.`, and these are their values
abbrev pub IsVersionOf : List ℕ → List ℕ → Type 0
IsVersionOf text numbers =
    (parts : List (List ℕ)) × (0 < length parts) × (length parts ≤ 4) × All IsVersionNumber parts
    × (text ≡ join_with_byte 46 parts) × (numbers ≡ map (digits_value 10) parts)

-- the text is a version
abbrev pub IsVersion : List ℕ → Type 0
IsVersion text = (numbers : List ℕ) × IsVersionOf text numbers
