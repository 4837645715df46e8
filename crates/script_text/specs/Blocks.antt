-- What lines of a script make that are whole: a reading holds the number of each line. `Tests` are the arms of an `if` so far, up
-- to the line whose body is still to come, and `Created` a `createfile` without the line that closes it.
use Rattle.std.specs.Prelude.{ℕ, ◌-◌, ◌≤◌, List, [], ◌∷◌, ◌++◌, ⊤}
use Rattle.script_text.specs.declared.line.Line.{Line}
use Rattle.script_text.specs.declared.line.Line.TheVariants.{Create}
use Rattle.script_text.specs.declared.command.Command.{Command}
use Rattle.script_text.specs.declared.command.Command.TheVariants as command
use Rattle.script_text.specs.declared.command.Source.{Source}
use Rattle.script_text.specs.declared.template.Template.{Template}
use Rattle.script_text.specs.Trees.{act, choice, Statements, no_statements, more_statements, Arms, no_arms, more_arms}

mutual
  -- lines that are whole statements
  pub data Block : Type 0 where
    no_lines : Block
    -- a line that does nothing
    skipped : Block → ℕ → Block
    -- a prefetch line
    fetched : Block → ℕ → Source → Block
    -- a line that does something
    acted : Block → ℕ → Line → Block
    -- a `createfile` and the line that closes it
    created : Created → ℕ → Block
    -- arms, the body of the last, and `endif`
    chosen : Tests → Block → ℕ → Block
    -- arms, the body of the last, `else`, its body, and `endif`
    chosen_else : Tests → Block → ℕ → Block → ℕ → Block

  pub data Tests : Type 0 where
    -- statements and an `if`
    first_test : Block → ℕ → List ℕ → Tests
    -- arms, the body of the last, and an `elseif`
    next_test : Tests → Block → ℕ → List ℕ → Tests

  pub data Created : Type 0 where
    -- statements and a `createfile` with its word
    begun : Block → ℕ → List ℕ → Created
    -- one more line
    filled : Created → ℕ → Template → Created

-- what a line is at its place: a command, a line of a `createfile` that ends at this word, or that word
pub data Mark : Type 0 where
  is_command : Command → Mark
  is_content : List ℕ → Template → Mark
  is_closing : List ℕ → Mark

-- a mark and the number of its line
pub record Marked : Type 0 where
  pub number : ℕ
  pub mark : Mark

abbrev pub at : ℕ → Mark → Marked
at n m = record { number = n; mark = m }

-- the word at which a `createfile` ends, and the number of its line
abbrev pub closing_word : Created → List ℕ
closing_word (begun b n w) = w
closing_word (filled c n t) = closing_word c

abbrev pub created_at : Created → ℕ
created_at (begun b n w) = n
created_at (filled c n t) = created_at c

-- how the lines spell a reading
abbrev mutual
  pub block_marks : Block → List Marked
  block_marks no_lines = []
  block_marks (skipped b n) = block_marks b ++ at n (is_command command.Nothing) ∷ []
  block_marks (fetched b n s) = block_marks b ++ at n (is_command (command.Prefetch s)) ∷ []
  block_marks (acted b n l) = block_marks b ++ at n (is_command (command.Do l)) ∷ []
  block_marks (created c n) = created_marks c ++ at n (is_closing (closing_word c)) ∷ []
  block_marks (chosen ts b n) = (tests_marks ts ++ block_marks b) ++ at n (is_command command.EndIf) ∷ []
  block_marks (chosen_else ts b m o n) =
      ((tests_marks ts ++ (block_marks b ++ at m (is_command command.Else) ∷ [])) ++ block_marks o)
      ++ at n (is_command command.EndIf) ∷ []

  pub tests_marks : Tests → List Marked
  tests_marks (first_test b n t) = block_marks b ++ at n (is_command (command.If t)) ∷ []
  tests_marks (next_test ts b n t) = (tests_marks ts ++ block_marks b) ++ at n (is_command (command.ElseIf t)) ∷ []

  pub created_marks : Created → List Marked
  created_marks (begun b n w) = block_marks b ++ at n (is_command (command.Create w)) ∷ []
  created_marks (filled c n t) = created_marks c ++ at n (is_content (closing_word c) t) ∷ []

-- the lines of a file
abbrev pub created_lines : Created → List Template
created_lines (begun b n w) = []
created_lines (filled c n t) = created_lines c ++ t ∷ []

-- the number and the test of the last arm, and the number of the `if`
abbrev pub last_line : Tests → ℕ
last_line (first_test b n t) = n
last_line (next_test ts b n t) = n

abbrev pub last_test : Tests → List ℕ
last_test (first_test b n t) = t
last_test (next_test ts b n t) = t

abbrev pub opened_at : Tests → ℕ
opened_at (first_test b n t) = n
opened_at (next_test ts b n t) = opened_at ts

-- the tree that a reading makes
abbrev mutual
  pub block_tree : Block → Statements
  block_tree no_lines = no_statements
  block_tree (skipped b n) = block_tree b
  block_tree (fetched b n s) = block_tree b
  block_tree (acted b n l) = more_statements (block_tree b) (act n l)
  block_tree (created c n) = more_statements (created_before c) (act (created_at c) (Create (created_lines c)))
  block_tree (chosen ts b n) = more_statements (tests_before ts)
      (choice (more_arms (whole_arms ts) (last_line ts) (last_test ts) (block_tree b)) no_statements)
  block_tree (chosen_else ts b m o n) = more_statements (tests_before ts)
      (choice (more_arms (whole_arms ts) (last_line ts) (last_test ts) (block_tree b)) (block_tree o))

  -- the statements before the `if`
  pub tests_before : Tests → Statements
  tests_before (first_test b n t) = block_tree b
  tests_before (next_test ts b n t) = tests_before ts

  -- the arms but the last
  pub whole_arms : Tests → Arms
  whole_arms (first_test b n t) = no_arms
  whole_arms (next_test ts b n t) = more_arms (whole_arms ts) (last_line ts) (last_test ts) (block_tree b)

  -- the statements before the `createfile`
  pub created_before : Created → Statements
  created_before (begun b n w) = block_tree b
  created_before (filled c n t) = created_before c

-- at most so many `if`s stand inside of one another
abbrev mutual
  pub IsShallow : ℕ → Block → Type 0
  IsShallow most no_lines = ⊤
  IsShallow most (skipped b n) = IsShallow most b
  IsShallow most (fetched b n s) = IsShallow most b
  IsShallow most (acted b n l) = IsShallow most b
  IsShallow most (created c n) = AreShallowBefore most c
  IsShallow most (chosen ts b n) = AreShallow most ts × (1 ≤ most) × IsShallow (most - 1) b
  IsShallow most (chosen_else ts b m o n) =
      AreShallow most ts × (1 ≤ most) × IsShallow (most - 1) b × IsShallow (most - 1) o

  pub AreShallow : ℕ → Tests → Type 0
  AreShallow most (first_test b n t) = IsShallow most b
  AreShallow most (next_test ts b n t) = AreShallow most ts × (1 ≤ most) × IsShallow (most - 1) b

  pub AreShallowBefore : ℕ → Created → Type 0
  AreShallowBefore most (begun b n w) = IsShallow most b
  AreShallowBefore most (filled c n t) = AreShallowBefore most c
