-- What stands as it is in a field or to the end of a line.
use Rattle.std.specs.Prelude.{◌≢◌, ℕ, ◌<◌, ◌≤◌, ◌==◌, Bool, ◌||◌, List, length, All}
use Rattle.std.specs.Char.{is_ascii_alphanumeric}
use Rattle.std.specs.List.{AllPass}
use Rattle.std.specs.Str.{IsUtf8}

-- an ASCII letter or digit, `-`, `_` or `.`
abbrev pub is_name_byte : ℕ → Bool
is_name_byte byte = is_ascii_alphanumeric byte || byte == 45 || byte == 95 || byte == 46

-- 1 to 64 such bytes
abbrev pub IsName : List ℕ → Type 0
IsName text = (0 < length text) × (length text ≤ 64) × AllPass is_name_byte text

-- UTF-8 without LF
abbrev pub IsLineText : List ℕ → Type 0
IsLineText text = IsUtf8 text × All (λ byte. byte ≢ 10) text

-- the rest of a line: one or more bytes of that
abbrev pub IsRest : List ℕ → Type 0
IsRest text = (0 < length text) × IsLineText text
