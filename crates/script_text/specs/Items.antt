-- The items of which a line consists, read from the left.
use Rattle.std.specs.Prelude.{◌≡◌, ℕ, ◌^◌, ◌-◌, ◌<◌, ◌⊎◌, List, [], ◌∷◌, ◌++◌, length, map, codes, Ok}
use Rattle.std.specs.Char.{to_ascii_lowercase}
use Rattle.hex.specs.Hex.{decode_sized}
use Rattle.line_forms.specs.Names.{IsName}
use Rattle.line_forms.specs.Numbers.{IsNumber}
use Rattle.script_text.specs.declared.piece.Ending.TheVariants as ending
use Rattle.script_text.specs.declared.template.Template.{Template}
use Rattle.script_text.specs.Bytes.{Each, is_blank, is_in_field, SplitsRun}
use Rattle.script_text.specs.Runs.{is_in_name}
use Rattle.script_text.specs.Templates.{IsOpened, EndsExpression, HasNoEnd, IsTemplate, HasOpenBrace}

-- An item of a line: what it says where the text begins with it, and what follows; or that a brace is opened in it that
-- nothing closes.
pub record Item (V : Type 0) : Type 1 where
  pub Takes : List ℕ → V → List ℕ → Type 0
  pub Breaks : List ℕ → Type 0

-- how an item is read at a text
pub data Taken (V : Type 0) : Type 0 where
  took : V → List ℕ → Taken V
  brace_open : Taken V
  absent : Taken V

-- The item is taken, or a brace in it isn't closed, or the text doesn't begin with it.
abbrev pub IsTaken : {V : Type 0} → Item V → List ℕ → Taken V → Type 0
IsTaken item text (took value rest) = item.Takes text value rest
IsTaken item text brace_open = item.Breaks text
IsTaken {V} item text absent =
    ((value : V) (rest : List ℕ) → ¬ item.Takes text value rest) × ¬ item.Breaks text

-- one byte or more up to the next blank or the end
abbrev pub IsField : List ℕ → List ℕ → List ℕ → Type 0
IsField text field rest = (0 < length field) × SplitsRun is_in_field text field rest

-- a field that spells a value
abbrev pub field_of : {V : Type 0} → (List ℕ → V → Type 0) → Item V
field_of Spells = record {
  Takes = λ text value rest. (field : List ℕ) × IsField text field rest × Spells field value;
  Breaks = λ text. ⊥;
}

-- any field
abbrev pub field : Item (List ℕ)
field = field_of (λ text value. text ≡ value)

-- a word of a command, in any ASCII case
abbrev pub word : List ℕ → Item (Unit {0})
word lower = field_of (λ text value. map to_ascii_lowercase text ≡ map to_ascii_lowercase lower)

-- a name
abbrev pub name_field : Item (List ℕ)
name_field = field_of (λ text name. IsName text × (text ≡ name))

-- `size:` and a number below 2^64
abbrev pub size_field : Item ℕ
size_field = field_of (λ text size. (digits : List ℕ) × (text ≡ codes "size:" ++ digits)
    × IsNumber (2 ^ 64 - 1) digits size)

-- a word and two hexadecimal digits, in either case, for each of so many bytes
abbrev pub digest_field : List ℕ → ℕ → Item (List ℕ)
digest_field before count = field_of (λ text bytes. (digits : List ℕ) × (text ≡ before ++ digits)
    × (decode_sized digits count ≡ Ok bytes))

-- one blank or more, and all that follow one another
abbrev pub gap : Item (Unit {0})
gap = record {
  Takes = λ text value rest. (blanks : List ℕ) × (0 < length blanks) × SplitsRun is_blank text blanks rest;
  Breaks = λ text. ⊥;
}

-- the sign `=`
abbrev pub equals : Item (Unit {0})
equals = record {
  Takes = λ text value rest. text ≡ 61 ∷ rest;
  Breaks = λ text. ⊥;
}

-- the sign `=` with blanks around it or none
abbrev pub loose_equals : Item (Unit {0})
loose_equals = record {
  Takes = λ text value rest. (before left behind : List ℕ)
      × SplitsRun is_blank text before (61 ∷ left) × SplitsRun is_blank left behind rest;
  Breaks = λ text. ⊥;
}

-- a name between double quotes, without braces and quotes
abbrev pub quoted_name : Item (List ℕ)
quoted_name = record {
  Takes = λ text name rest. Each is_in_name name × (text ≡ 34 ∷ (name ++ 34 ∷ rest));
  Breaks = λ text. ⊥;
}

-- an expression in braces; `{{` begins none
abbrev pub braced : Item (List ℕ)
braced = record {
  Takes = λ text expression rest. (inner : List ℕ) × IsOpened text inner × EndsExpression inner expression rest;
  Breaks = λ text. (inner : List ℕ) × IsOpened text inner × HasNoEnd inner;
}

-- a template between double quotes
abbrev pub quoted : Item Template
quoted = record {
  Takes = λ text template rest. (inner : List ℕ) × (text ≡ 34 ∷ inner)
      × IsTemplate ending.Quote inner template (34 ∷ rest);
  Breaks = λ text. (inner : List ℕ) × (text ≡ 34 ∷ inner) × HasOpenBrace ending.Quote inner;
}

-- a whole text as a template
abbrev pub whole : Item Template
whole = record {
  Takes = λ text template rest. IsTemplate ending.Text text template rest;
  Breaks = λ text. HasOpenBrace ending.Text text;
}

-- the rest of a line as a template: one byte or more
abbrev pub rest_of_line : Item Template
rest_of_line = record {
  Takes = λ text template rest. (0 < length text) × IsTemplate ending.Text text template rest;
  Breaks = λ text. (0 < length text) × HasOpenBrace ending.Text text;
}

-- this begins and ends with a quote, two ones, and between them stands this
abbrev pub IsInQuotes : List ℕ → List ℕ → Type 0
IsInQuotes text inner = text ≡ 34 ∷ (inner ++ 34 ∷ [])

abbrev pub IsNotInQuotes : List ℕ → Type 0
IsNotInQuotes text = (inner : List ℕ) → ¬ IsInQuotes text inner

-- a path is what stands in the quotes, or the whole rest where it doesn't begin and end with one
abbrev pub IsPathText : List ℕ → List ℕ → Type 0
IsPathText text path = IsInQuotes text path ⊎ (IsNotInQuotes text × (path ≡ text))

-- the rest of a line as the template of a path: one byte or more, quotes included
abbrev pub path_of_line : Item Template
path_of_line = record {
  Takes = λ text template rest. (path : List ℕ) × (0 < length text) × IsPathText text path
      × IsTemplate ending.Text path template rest;
  Breaks = λ text. (path : List ℕ) × (0 < length text) × IsPathText text path × HasOpenBrace ending.Text path;
}

-- the end of the line
abbrev pub line_end : Item (Unit {0})
line_end = record {
  Takes = λ text value rest. (text ≡ []) × (rest ≡ []);
  Breaks = λ text. ⊥;
}
