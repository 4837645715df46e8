-- Texts that begin with a world's text: it goes to the first line `end`, and where no line is `end` it is all of the text.
use Rattle.std.specs.Prelude.{◌≡◌, ◌≢◌, ◌⊎◌, ℕ, List, [], ◌∷◌, ◌++◌, All, codes}
use Rattle.line_forms.specs.LineStates.{lines_of}
use Rattle.line_forms.specs.Lines.{IsLine, lines_text}

-- none of these lines is `end`
abbrev pub AreBeforeEnd : List (List ℕ) → Type 0
AreBeforeEnd lines = All (λ line. line ≢ codes "end") lines

-- the text is lines of which the last one is `end`, and no other
abbrev pub EndsAtEnd : List ℕ → Type 0
EndsAtEnd text = (lines : List (List ℕ)) × All IsLine lines × AreBeforeEnd lines × (text ≡ lines_text (lines ++ codes "end" ∷ []))

-- the text is that of a world and what comes behind it
abbrev pub Splits : List ℕ → List ℕ → List ℕ → Type 0
Splits text world rest = (text ≡ world ++ rest) × (EndsAtEnd world ⊎ (AreBeforeEnd (lines_of text) × (rest ≡ [])))
