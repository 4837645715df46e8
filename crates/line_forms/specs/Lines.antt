-- The lines of a text. A line ends with an LF; what stands behind the last LF is a line that isn't ended.
use Rattle.std.specs.Prelude.{◌≡◌, ℕ, ◌+◌, ◌-◌, ◌^◌, ◌<◌, min, List, [], ◌∷◌, ◌++◌, length, flat_map}
use Rattle.line_forms.specs.Cuts.{Lacks}
use Rattle.line_forms.specs.declared.lines.Ahead.{Ahead}
use Rattle.line_forms.specs.declared.lines.Ahead.TheVariants as ahead
use Rattle.line_forms.specs.LineStates.{LineState, lines_of, unended_of}

-- no LF stands in a line
abbrev pub IsLine : List ℕ → Type 0
IsLine line = Lacks 10 line

-- a line and its LF
abbrev pub ended_line : List ℕ → List ℕ
ended_line line = line ++ 10 ∷ []

-- the text of these lines, each with its LF
abbrev pub lines_text : List (List ℕ) → List ℕ
lines_text lines = flat_map ended_line lines

-- what stands behind the lines: the end of the text, or bytes that no LF ends
abbrev pub IsBehindLines : List ℕ → Ahead → Type 0
IsBehindLines unended (ahead.Line line) = ⊥
IsBehindLines unended ahead.End = unended ≡ []
IsBehindLines unended ahead.Unended = 0 < length unended

-- what stands ahead: a line, or what stands behind the lines where none is left
abbrev pub IsAhead : LineState → Ahead → Type 0
IsAhead state (ahead.Line line) = (more : List (List ℕ)) × (state.lines ≡ line.now ∷ more)
IsAhead state answer = (state.lines ≡ []) × IsBehindLines state.unended answer

-- Taking this line goes on to the next one. The number stands still at the last one of 32 bits.
abbrev pub TakesLine : LineState → LineState → List ℕ → Type 0
TakesLine old new line =
    (old.lines ≡ line ∷ new.lines) × (new.unended ≡ old.unended)
    × (new.number ≡ min (old.number + 1) (2 ^ 32 - 1))

-- the line ahead was taken, or there was none
abbrev pub Takes : LineState → LineState → Ahead → Type 0
Takes old new (ahead.Line line) = TakesLine old new line.now
Takes old new answer = IsAhead old answer × (new ≡ old)

-- The cursor stands behind these lines of the text: the rest is left, and the line ahead has the number
-- after theirs, or the last number of 32 bits where that is less.
pub record StandsBehind (text : List ℕ) (before : List (List ℕ)) (state : LineState) : Type 0 where
  pub lines : lines_of text ≡ before ++ state.lines
  pub unended : unended_of text ≡ state.unended
  pub number : state.number ≡ min (length before + 1) (2 ^ 32 - 1)
