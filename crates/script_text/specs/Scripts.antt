-- What lists of lines are as scripts.
use Rattle.std.specs.Prelude.{◌≡◌, ◌≢◌, ℕ, ◌+◌, ◌⊎◌, List, [], ◌∷◌, ◌++◌, length, flat_map, Some, ⊤}
use Rattle.std.specs.Prelude.{Result, Ok, Err}
use Rattle.script_text.specs.declared.error.ScriptError.{ScriptError}
use Rattle.script_text.specs.declared.error.ScriptError.TheVariants as error
use Rattle.script_text.specs.declared.command.Command.{Command}
use Rattle.script_text.specs.declared.command.Command.TheVariants as command
use Rattle.script_text.specs.declared.command.Source.{Source}
use Rattle.script_text.specs.declared.prefetch.Prefetch.{Prefetch}
use Rattle.script_text.specs.declared.piece.Ending.TheVariants as ending
use Rattle.script_text.specs.Templates.{IsTemplate, HasOpenBrace}
use Rattle.script_text.specs.Forms.{Outcome, reads, no_command, brace_not_closed}
use Rattle.script_text.specs.Lines.{LineReads}
use Rattle.script_text.specs.Trees.{Statements}
use Rattle.script_text.specs.Blocks.{Block, Mark, is_command, is_content, is_closing, Marked, block_marks, block_tree, closing_word}
use Rattle.script_text.specs.Parts.{Around, top, in_arm, Inner, within, creating, Part, whole, part_marks, depth, IsShallowPart, not_closed}

-- a line spells a mark; the line that closes a `createfile` is its word, byte for byte
abbrev pub IsMark : List ℕ → Mark → Type 0
IsMark line (is_command c) = LineReads line (reads c)
IsMark line (is_content word t) = (line ≢ word) × IsTemplate ending.Text line t []
IsMark line (is_closing word) = line ≡ word

-- the lines spell the marks, one each, and have their numbers, counted from this one
abbrev pub AreLines : ℕ → List Marked → List (List ℕ) → Type 0
AreLines number [] [] = ⊤
AreLines number [] (line ∷ lines) = ⊥
AreLines number (m ∷ ms) [] = ⊥
AreLines number (m ∷ ms) (line ∷ lines) =
    (m.number ≡ number) × IsMark line m.mark × AreLines (number + 1) ms lines

-- the lines are read so
pub record IsPartOf (lines : List (List ℕ)) (p : Part) : Type 0 where
  pub spelled : AreLines 1 (part_marks p) lines
  pub shallow : IsShallowPart p

-- the files that lines fetch, wherever they stand
abbrev pub fetch_at : ℕ → Source → Prefetch
fetch_at n s = record { line = n; name = s.name; sha1 = s.sha1; size = s.size; url = s.url; sha256 = s.sha256 }

abbrev pub fetches_of : ℕ → Mark → List Prefetch
fetches_of n (is_command (command.Prefetch s)) = fetch_at n s ∷ []
fetches_of n _ = []

abbrev pub fetches : List Marked → List Prefetch
fetches ms = flat_map (λ (m : Marked). fetches_of m.number m.mark) ms

-- no arm is open, whose body could end here
abbrev pub IsOutsideArm : Around → Type 0
IsOutsideArm (in_arm a ts) = ⊥
IsOutsideArm _ = ⊤

-- a command that can't stand there, and why
abbrev pub IsMisplaced : Around → ℕ → Command → ScriptError → Type 0
IsMisplaced around n (command.If t) e = (depth around ≡ 64) × (e ≡ error.NoCommand n)
IsMisplaced around n (command.ElseIf t) e = IsOutsideArm around × (e ≡ error.StrayElse n)
IsMisplaced around n command.Else e = IsOutsideArm around × (e ≡ error.StrayElse n)
IsMisplaced around n command.EndIf e = (around ≡ top) × (e ≡ error.StrayElse n)
IsMisplaced around n _ e = ⊥

-- a line is refused by itself, and only then by its place
abbrev pub IsWrongOutcome : Around → ℕ → Outcome → ScriptError → Type 0
IsWrongOutcome around n no_command e = e ≡ error.NoCommand n
IsWrongOutcome around n brace_not_closed e = e ≡ error.BraceNotClosed n
IsWrongOutcome around n (reads c) e = IsMisplaced around n c e

-- behind what was read so far this line, with this number, is refused
abbrev pub IsWrongInner : Around → Inner → ℕ → List ℕ → ScriptError → Type 0
IsWrongInner around (creating c) n line e =
    (line ≢ closing_word c) × HasOpenBrace ending.Text line × (e ≡ error.BraceNotClosed n)
IsWrongInner around (within b) n line e = (outcome : Outcome) × LineReads line outcome × IsWrongOutcome around n outcome e

abbrev pub IsWrongAt : Part → ℕ → List ℕ → ScriptError → Type 0
IsWrongAt p n line e = IsWrongInner p.around p.inner n line e

-- The first line that is refused, after lines that are read so far.
pub record IsRefused (lines : List (List ℕ)) (e : ScriptError) : Type 0 where
  pub before : List (List ℕ)
  pub line : List ℕ
  pub behind : List (List ℕ)
  pub splits : lines ≡ before ++ line ∷ behind
  pub part : Part
  pub read : IsPartOf before part
  pub wrong : IsWrongAt part (length before + 1) line e

-- No line is refused, but a statement isn't closed.
pub record IsOpen (lines : List (List ℕ)) (e : ScriptError) : Type 0 where
  pub part : Part
  pub read : IsPartOf lines part
  pub first : not_closed part ≡ Some e

-- a script without where it lies in memory
pub record PlainScript : Type 0 where
  pub prefetches : List Prefetch
  pub statements : Statements

-- what a reading of a whole script makes
abbrev pub script_of : Block → PlainScript
script_of b = record { prefetches = fetches (block_marks b); statements = block_tree b }

-- The lines are this script, or none for this cause.
abbrev pub IsVerdict : List (List ℕ) → Result PlainScript ScriptError → Type 0
IsVerdict lines (Ok script) = (b : Block) × IsPartOf lines (whole b) × (script ≡ script_of b)
IsVerdict lines (Err e) = IsRefused lines e ⊎ IsOpen lines e
