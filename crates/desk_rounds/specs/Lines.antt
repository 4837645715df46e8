-- The lines that are printed of a round.
use Rattle.std.specs.Prelude.{ℕ, ℤ, List, [], ◌∷◌, flat_map, codes}
use Rattle.agent_core.specs.declared.turned.Turned.{Turned}
use Rattle.turn_lines.specs.TurnLines.{turn_line}
use Rattle.desk_rounds.specs.declared.asking.Miss.{Miss}
use Rattle.desk_rounds.specs.declared.asking.Miss.TheVariants as miss

pub data Line : Type 0 where
  -- an exchange failed
  no_answer : Line
  -- a reply is none of those which may be
  bad_answer : Line
  -- the second upstream was turned to
  second_upstream : Line
  -- a computer's turn at this moment came to this
  turned : (computer : List ℕ) (moment : ℤ) (answer : Turned) → Line

-- the text of each
abbrev pub line_text : Line → List ℕ
line_text no_answer = codes "link: no answer\n"
line_text bad_answer = codes "link: bad answer\n"
line_text second_upstream = codes "link: second\n"
line_text (turned computer moment answer) = turn_line computer moment answer

abbrev pub lines_text : List Line → List ℕ
lines_text lines = flat_map line_text lines

-- what is printed where nothing came of a request
abbrev pub miss_lines : Miss → List Line
miss_lines miss.NoAnswer = no_answer ∷ []
miss_lines miss.BadAnswer = bad_answer ∷ []
miss_lines miss.Memory = []
