-- The first bad line of a text, for any set of texts made of lines. Such a set is a fact about lists of
-- lines without their LFs; in its texts each line is ended.
use Rattle.std.specs.Prelude.{◌≡◌, ℕ, ◌+◌, ◌-◌, ◌^◌, ◌≤◌, min, ◌⊎◌, List, [], ◌++◌, length, take}
use Rattle.line_forms.specs.LineStates.{lines_of, unended_of}

-- the text is one of the set
abbrev pub IsTextOf : (List (List ℕ) → Type 0) → List ℕ → Type 0
IsTextOf AreGood text = (unended_of text ≡ []) × AreGood (lines_of text)

-- these lines begin some text of the set
abbrev pub Begins : (List (List ℕ) → Type 0) → List (List ℕ) → Type 0
Begins AreGood lines = (more : List (List ℕ)) × AreGood (lines ++ more)

-- the first n lines of the text begin no text of the set any more
abbrev pub IsWrongLine : (List (List ℕ) → Type 0) → List ℕ → ℕ → Type 0
IsWrongLine AreGood text n = (n ≤ length (lines_of text)) × ¬ Begins AreGood (take n (lines_of text))

-- line n isn't ended, or it is missing, as the text ends too early: it comes after the last ended line
abbrev pub IsUnendedLine : (List (List ℕ) → Type 0) → List ℕ → ℕ → Type 0
IsUnendedLine AreGood text n = (n ≡ length (lines_of text) + 1) × ¬ IsTextOf AreGood text

-- Line n, counted from 1, is the text's first bad line: the lines before it begin some text of the set,
-- and there it goes wrong.
pub record IsFirstBadLine (AreGood : List (List ℕ) → Type 0) (text : List ℕ) (n : ℕ) : Type 0 where
  pub counted : 1 ≤ n
  pub before : Begins AreGood (take (n - 1) (lines_of text))
  pub wrong : IsWrongLine AreGood text n ⊎ IsUnendedLine AreGood text n

-- The answer is the number of the first bad line, or the last number of 32 bits where that is less.
abbrev pub AnswersBadLine : (List (List ℕ) → Type 0) → List ℕ → ℕ → Type 0
AnswersBadLine AreGood text answer = (n : ℕ) × IsFirstBadLine AreGood text n × (answer ≡ min n (2 ^ 32 - 1))
