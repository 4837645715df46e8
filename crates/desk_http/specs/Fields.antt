-- What the fields of a head say of the body. A field is its name, and its value without the white space around it.
use Rattle.std.specs.Prelude.{ℕ, ◌&&◌, ◌==◌, nat_lt, Bool, true, false, not, List, [], ◌∷◌, length, map, get_or, None, Some, codes, if◌then◌else◌, bytes_eq}
use Rattle.std.specs.declared.option.Option.{Option}
use Rattle.std.specs.List.{list_all}
use Rattle.std.specs.Char.{is_ascii_digit, to_ascii_lowercase}
use Rattle.std.specs.Str.Parse.{digits_value}

-- the same name in any ASCII case
abbrev pub same_name : List ℕ → List ℕ → Bool
same_name name other = bytes_eq (map to_ascii_lowercase name) (map to_ascii_lowercase other)

-- the values of the fields with this name
abbrev pub named : List ℕ → List (List ℕ × List ℕ) → List (List ℕ)
named name [] = []
named name (field ∷ fields) = if same_name field.0 name then field.1 ∷ named name fields else named name fields

-- a 0 with more behind it
abbrev pub has_leading_zero : List ℕ → Bool
has_leading_zero text = nat_lt 1 (length text) && get_or text 0 0 == 48

-- one decimal number of any length, without sign and without leading zeros
abbrev pub is_number : List ℕ → Bool
is_number text = nat_lt 0 (length text) && (list_all is_ascii_digit text && not (has_leading_zero text))

-- the number of a text
abbrev pub number_in : List ℕ → Option ℕ
number_in text = if is_number text then Some (digits_value 10 text) else None

-- there is no such field
abbrev pub is_absent : List (List ℕ) → Bool
is_absent [] = true
is_absent (value ∷ values) = false

-- an HTTP/1.1 head has one Host, and an HTTP/1.0 head at most one
abbrev pub are_hosts : ℕ → List (List ℕ) → Bool
are_hosts minor [] = not (minor == 1)
are_hosts minor (host ∷ []) = true
are_hosts minor (host ∷ other ∷ hosts) = false

-- the one length that is stated, if there is one; a request that states none has no body
abbrev pub stated_length : Option ℕ → List (List ℕ) → Option ℕ
stated_length unstated [] = unstated
stated_length unstated (value ∷ []) = number_in value
stated_length unstated (value ∷ other ∷ values) = None

-- The length of a request's body, or None where its fields are bad.
abbrev pub request_length : ℕ → List (List ℕ × List ℕ) → Option ℕ
request_length minor fields =
    if is_absent (named (codes "transfer-encoding") fields) && are_hosts minor (named (codes "host") fields)
    then stated_length (Some 0) (named (codes "content-length") fields)
    else None

-- The length of a reply's body, or None where it isn't stated.
abbrev pub reply_length : List (List ℕ × List ℕ) → Option ℕ
reply_length fields = stated_length None (named (codes "content-length") fields)
