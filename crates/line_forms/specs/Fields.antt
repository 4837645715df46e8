-- The fields of a line, separated by exactly one space. A further space belongs to what follows.
use Rattle.std.specs.Prelude.{◌≡◌, ℕ, List, [], ◌∷◌, ◌++◌, MatchOption, codes, None, Some}
use Rattle.std.specs.declared.option.Option.{Option}
use Rattle.line_forms.specs.Cuts.{IsCut}
use denote.Ref.{Bor}

-- the line is a field, a space and what follows
abbrev pub IsFirstField : List ℕ → List ℕ → List ℕ → Type 0
IsFirstField line field rest = IsCut 32 line field rest

-- a field and the space behind it
abbrev pub field_text : List ℕ → List ℕ
field_text field = field ++ 32 ∷ []

-- what may be missing: `-` stands for it
abbrev pub dash_or : {V : Type 0} → (V → List ℕ) → Option V → List ℕ
dash_or text_of None = codes "-"
dash_or text_of (Some value) = text_of value

-- The answer is what follows the word and a space, or None where the line doesn't begin so.
abbrev pub Follows : List ℕ → List ℕ → Option (Bor (List ℕ)) → Type 0
Follows word line answer =
    MatchOption answer ((rest : List ℕ) → ¬ (line ≡ field_text word ++ rest))
    (λ rest. line ≡ field_text word ++ rest.now)
