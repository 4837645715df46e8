-- Versions: read from a text, and compared number by number.
use Rattle.std.specs.Prelude.{ℕ, ◌+◌, ◌^◌, Bool, ◌&&◌, nat_lt, nat_le, if◌then◌else◌, List, ◌++◌, length, map, take, replicate, Option, Some, None}
use Rattle.std.specs.declared.cmp.Ordering.{Ordering}
use Rattle.std.specs.Ordering.{nat_cmp}
use Rattle.std.specs.Cmp.Lexicographic.{slice_cmp}
use Rattle.std.specs.List.{list_all}
use Rattle.std.specs.Char.{is_ascii_digit}
use Rattle.std.specs.Str.Parse.{digits_value}
use Rattle.line_forms.specs.Cuts.{pieces}

-- a number of 32 bits in decimal digits; leading zeros are allowed
abbrev pub is_version_number : List ℕ → Bool
is_version_number digits =
    nat_lt 0 (length digits) && list_all is_ascii_digit digits && nat_lt (digits_value 10 digits) (2 ^ 32)

-- the numbers of a text of one to four such numbers joined by `.`
abbrev pub version_of : List ℕ → Option (List ℕ)
version_of text =
    if nat_le (length (pieces 46 text)) 4 && list_all is_version_number (pieces 46 text)
    then Some (map (digits_value 10) (pieces 46 text)) else None

-- the four numbers of a version, of which those that are missing are 0
abbrev pub four : List ℕ → List ℕ
four numbers = take 4 (numbers ++ replicate 4 0)

-- the order of two versions: that of the first numbers that differ
abbrev pub version_cmp : List ℕ → List ℕ → Ordering
version_cmp a b = slice_cmp nat_cmp (four a) (four b)
