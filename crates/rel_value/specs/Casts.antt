-- The casts: what each gives for its operand.
use Rattle.std.specs.Prelude.{ℕ, ◌==◌, ℤ, pos, neg_ℤ, Bool, true, false, ◌&&◌, nat_lt, nat_eq, if◌then◌else◌, List, [], ◌∷◌, length, map, Option, Some, None, codes}
use Rattle.std.specs.Char.{is_ascii_digit, to_ascii_lowercase, to_ascii_uppercase}
use Rattle.std.specs.List.{list_all}
use Rattle.std.specs.Str.Parse.{digits_value}
use Rattle.std.specs.Cmp.Lexicographic.{pointwise}
use Rattle.rel_lexer.specs.Bytes.{is_blank}
use Rattle.rel_value.specs.declared.cast_name.Cast.{Cast}
use Rattle.rel_value.specs.declared.cast_name.Cast.TheVariants as to
use Rattle.rel_value.specs.declared.fault.ValueFault.TheVariants.{Absent}
use Rattle.rel_value.specs.Plain.{Plain, boolean, integer, time, version}
use Rattle.rel_value.specs.Outcomes.{Outcome, gives, fails, no_row, fits_i64, bounded}
use Rattle.rel_value.specs.Operands.{Stance, number, bytes, numbers, stance}
use Rattle.rel_value.specs.Versions.{version_of}
use Rattle.rel_value.specs.Texts.{text_of}
use Rattle.rel_value.specs.TimesRead.{time_of}

-- one digit or more
abbrev pub is_numeral : List ℕ → Bool
is_numeral text = nat_lt 0 (length text) && list_all is_ascii_digit text

-- the text behind a `-` at its beginning, if there is one
abbrev pub behind_minus : List ℕ → List ℕ
behind_minus [] = []
behind_minus (b ∷ bs) = if b == 45 then bs else b ∷ bs

-- a number, below 0 where the text begins with `-`
abbrev pub signed : List ℕ → ℕ → ℤ
signed [] n = pos n
signed (b ∷ bs) n = if b == 45 then neg_ℤ (pos n) else pos n

-- the number of an optional `-` and one digit or more
abbrev pub signed_of : List ℕ → Option ℤ
signed_of text =
    if is_numeral (behind_minus text) then Some (signed text (digits_value 10 (behind_minus text))) else None

-- a number, where there is one, in range
abbrev pub integer_read : Option ℤ → Outcome
integer_read None = fails Absent
integer_read (Some z) = if fits_i64 z then gives (integer z) else fails Absent

abbrev pub version_read : Option (List ℕ) → Outcome
version_read None = fails Absent
version_read (Some ns) = gives (version ns)

-- the same bytes
abbrev pub same_bytes : List ℕ → List ℕ → Bool
same_bytes a b = pointwise nat_eq a b

abbrev pub boolean_read : List ℕ → Outcome
boolean_read lowered =
    if same_bytes lowered (codes "true") then gives (boolean true)
    else (if same_bytes lowered (codes "false") then gives (boolean false) else fails Absent)

-- the moment of a text that is the time text of one
abbrev pub time_read : Option ℕ → Outcome
time_read None = fails Absent
time_read (Some moment) = gives (time (pos moment))

-- the text from its first byte on that is no blank
abbrev pub without_front : List ℕ → List ℕ
without_front [] = []
without_front (b ∷ bs) = if is_blank b then without_front bs else b ∷ bs

-- the text up to its last byte that is no blank
abbrev pub without_back : List ℕ → List ℕ
without_back [] = []
without_back (b ∷ bs) = if list_all is_blank (b ∷ bs) then [] else b ∷ without_back bs

-- `as integer`
abbrev pub as_integer : Stance → Outcome
as_integer (number z) = gives (integer z)
as_integer (bytes t) = integer_read (signed_of t)
as_integer _ = no_row

-- `as version`
abbrev pub as_version : Stance → Outcome
as_version (numbers ns) = gives (version ns)
as_version (bytes t) = version_read (version_of t)
as_version _ = no_row

-- `as boolean`
abbrev pub as_boolean : Stance → Outcome
as_boolean (bytes t) = boolean_read (map to_ascii_lowercase t)
as_boolean _ = no_row

-- a text changed
abbrev pub as_text : (List ℕ → List ℕ) → Stance → Outcome
as_text change (bytes t) = bounded (change t)
as_text change _ = no_row

-- `as time`
abbrev pub as_time : Stance → Outcome
as_time (bytes t) = time_read (time_of t)
as_time _ = no_row

-- what a cast gives for a value, at an offset
abbrev pub cast : Cast → Plain → ℤ → Outcome
cast to.Str v offset = bounded (text_of offset v)
cast to.Integer v offset = as_integer (stance v)
cast to.Version v offset = as_version (stance v)
cast to.Boolean v offset = as_boolean (stance v)
cast to.Time v offset = as_time (stance v)
cast to.Lowercase v offset = as_text (map to_ascii_lowercase) (stance v)
cast to.Uppercase v offset = as_text (map to_ascii_uppercase) (stance v)
cast to.Trimmed v offset = as_text (λ t. without_back (without_front t)) (stance v)
