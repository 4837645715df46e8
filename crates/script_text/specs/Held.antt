-- What the reader of lines holds of what was read so far. Only private functions cite this.
use Rattle.std.specs.Prelude.{◌≡◌, ℕ, List, [], ◌∷◌, ◌++◌, map, Option, Some, None, Result, Ok, Err, ⊤}
use Rattle.script_text.specs.declared.command.Command.{Command}
use Rattle.script_text.specs.declared.command.Command.TheVariants as command
use Rattle.script_text.specs.declared.error.ScriptError.{ScriptError}
use Rattle.script_text.specs.declared.error.ScriptError.TheVariants as error
use Rattle.script_text.specs.declared.reader.Open.{Open}
use Rattle.script_text.specs.declared.reader.Test.{Test}
use Rattle.script_text.specs.declared.reader.OpenCreate.{OpenCreate}
use Rattle.script_text.specs.declared.reader.Reader.{Reader}
use Rattle.script_text.specs.declared.script.Script.{Script}
use Rattle.script_text.specs.Trees.{PlainStatement, choice, Statements, no_statements, more_statements, Arms, more_arms}
use Rattle.script_text.specs.Views.{shown_statements, shown_arms}
use Rattle.script_text.specs.Blocks.{Block, Tests, Created, Mark, Marked, at, block_tree, tests_before, whole_arms, last_line, last_test, opened_at, created_before, created_at, created_lines, closing_word}
use Rattle.script_text.specs.Parts.{Around, top, in_arm, in_else, Inner, within, creating, Part, whole, part_marks, IsShallowPart, not_closed}
use Rattle.script_text.specs.Scripts.{IsMark, fetches, IsMisplaced, IsWrongAt, script_of}
use Rattle.script_text.specs.Readings.{shown_script}

-- an open `if` without where it lies in memory
pub record PlainOpen : Type 0 where
  pub line : ℕ
  pub before : Statements
  pub arms : Arms
  pub arm : Option Test

abbrev pub shown_open : Open → PlainOpen
shown_open o = record { line = o.line; before = shown_statements o.before; arms = shown_arms o.arms; arm = o.arm }

abbrev pub arm_open : Tests → PlainOpen
arm_open ts = record {
  line = opened_at ts;
  before = tests_before ts;
  arms = whole_arms ts;
  arm = Some (record { line = last_line ts; test = last_test ts });
}

abbrev pub else_open : Tests → Block → PlainOpen
else_open ts b = record {
  line = opened_at ts;
  before = tests_before ts;
  arms = more_arms (whole_arms ts) (last_line ts) (last_test ts) (block_tree b);
  arm = None;
}

abbrev pub around_open : Around → List PlainOpen
around_open top = []
around_open (in_arm a ts) = around_open a ++ arm_open ts ∷ []
around_open (in_else a ts b n) = around_open a ++ else_open ts b ∷ []

abbrev pub inner_statements : Inner → Statements
inner_statements (within b) = block_tree b
inner_statements (creating c) = created_before c

abbrev pub inner_create : Inner → Option OpenCreate
inner_create (within b) = None
inner_create (creating c) = Some (record { line = created_at c; word = closing_word c; lines = created_lines c })

-- the reader holds what these lines make
pub record Stands (p : Part) (r : Reader) : Type 0 where
  pub prefetches : r.prefetches ≡ fetches (part_marks p)
  pub opens : map shown_open r.open.items ≡ around_open p.around
  pub statements : shown_statements r.statements ≡ inner_statements p.inner
  pub create : r.create ≡ inner_create p.inner

-- the reader holds what these lines and one more make
pub record ExtendsBy (p : Part) (m : Marked) (r : Reader) : Type 0 where
  pub part : Part
  pub marks : part_marks part ≡ part_marks p ++ m ∷ []
  pub shallow : IsShallowPart p → IsShallowPart part
  pub stands : Stands part r

pub record Extends (p : Part) (n : ℕ) (line : List ℕ) (r : Reader) : Type 0 where
  pub mark : Mark
  pub spelled : IsMark line mark
  pub extends : ExtendsBy p (at n mark) r

-- why the line isn't read behind these, or want of memory
abbrev pub Refuses : Part → ℕ → List ℕ → ScriptError → Type 0
Refuses p n line error.Memory = ⊤
Refuses p n line e = IsWrongAt p n line e

-- why a command can't stand there, or want of memory
abbrev pub Misplaces : Around → ℕ → Command → ScriptError → Type 0
Misplaces a n c error.Memory = ⊤
Misplaces a n c e = IsMisplaced a n c e

abbrev pub inside : Around → Block → Part
inside a b = record { around = a; inner = within b }

abbrev pub in_file : Around → Created → Part
in_file a c = record { around = a; inner = creating c }

-- an `elseif` with its test, or an `else`
abbrev pub else_command : Option Test → Command
else_command None = command.Else
else_command (Some t) = command.ElseIf t.test

abbrev pub HasNumber : Option Test → ℕ → Type 0
HasNumber None n = ⊤
HasNumber (Some t) n = t.line ≡ n

-- what the end of the lines answers
abbrev pub Finishes : Part → Result Script ScriptError → Type 0
Finishes p (Ok s) = (b : Block) × (p ≡ whole b) × (shown_script s ≡ script_of b)
Finishes p (Err e) = not_closed p ≡ Some e

-- the statements before an `if` and this `if`, whose last body is whole
abbrev pub closed_arms : Arms → Option Test → Statements → PlainStatement
closed_arms arms None body = choice arms body
closed_arms arms (Some t) body = choice (more_arms arms t.line t.test body) no_statements

abbrev pub closed_if : PlainOpen → Statements → Statements
closed_if o body = more_statements o.before (closed_arms o.arms o.arm body)
