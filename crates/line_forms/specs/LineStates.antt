-- Where a cursor over lines stands, as contracts see it.
use Rattle.std.specs.Prelude.{ℕ, List, [], ◌∷◌}
use Rattle.line_forms.specs.Cuts.{pieces}

-- all but the last
abbrev pub front_of : List (List ℕ) → List (List ℕ)
front_of [] = []
front_of (piece ∷ []) = []
front_of (piece ∷ next ∷ more) = piece ∷ front_of (next ∷ more)

-- the last
abbrev pub last_of : List (List ℕ) → List ℕ
last_of [] = []
last_of (piece ∷ []) = piece
last_of (piece ∷ next ∷ more) = last_of (next ∷ more)

-- the lines of a text that are ended, each without its LF
abbrev pub lines_of : List ℕ → List (List ℕ)
lines_of text = front_of (pieces 10 text)

-- the bytes behind the last LF of a text
abbrev pub unended_of : List ℕ → List ℕ
unended_of text = last_of (pieces 10 text)

-- the ended lines that are left, the bytes behind the last LF, and the number of the line ahead, counted from 1
pub record LineState : Type 0 where
  pub lines : List (List ℕ)
  pub unended : List ℕ
  pub number : ℕ

-- a cursor before the first line of a text
abbrev pub before_lines : List ℕ → LineState
before_lines text = record { lines = lines_of text; unended = unended_of text; number = 1 }
