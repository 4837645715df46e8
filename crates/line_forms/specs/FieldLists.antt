-- The fields of a line as a list. Exactly one space separates them.
use Rattle.std.specs.Prelude.{◌≡◌, ℕ, List, [], ◌∷◌, MatchOption, None, Some}
use Rattle.std.specs.declared.option.Option.{Option}
use Rattle.std.specs.List.{join_with_byte}
use Rattle.line_forms.specs.Cuts.{pieces}
use denote.Ref.{Bor}

-- the fields of a line: what stands between its spaces
abbrev pub fields_of : List ℕ → List (List ℕ)
fields_of line = pieces 32 line

-- the line of these fields
abbrev pub line_of : List (List ℕ) → List ℕ
line_of fields = join_with_byte 32 fields

-- the fields of what is left of a line, if anything is
abbrev pub left_fields : Option (Bor (List ℕ)) → List (List ℕ)
left_fields None = []
left_fields (Some line) = fields_of line.now

-- the next field was taken, or none is left
abbrev pub TakesField : List (List ℕ) → List (List ℕ) → Option (Bor (List ℕ)) → Type 0
TakesField old new answer = MatchOption answer ((old ≡ []) × (new ≡ [])) (λ field. old ≡ field.now ∷ new)
