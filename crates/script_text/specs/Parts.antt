-- What lines make with which a script begins: statements that are whole, in `if`s that are open, and a `createfile` that is open.
use Rattle.std.specs.Prelude.{ℕ, ◌+◌, ◌-◌, ◌<◌, List, [], ◌∷◌, ◌++◌, Option, Some, None, unwrap_or, ⊤}
use Rattle.script_text.specs.declared.error.ScriptError.{ScriptError}
use Rattle.script_text.specs.declared.error.ScriptError.TheVariants as error
use Rattle.script_text.specs.declared.command.Command.TheVariants as command
use Rattle.script_text.specs.Blocks.{Block, Tests, Created, Marked, at, is_command, block_marks, tests_marks, created_marks, created_at, opened_at, IsShallow, AreShallow, AreShallowBefore}

-- the open `if`s around a place, the outermost first: the place stands in the last arm, or behind the `else` after its body
pub data Around : Type 0 where
  top : Around
  in_arm : Around → Tests → Around
  in_else : Around → Tests → Block → ℕ → Around

-- the innermost statements, and the `createfile` where one is open after them
pub data Inner : Type 0 where
  within : Block → Inner
  creating : Created → Inner

pub record Part : Type 0 where
  pub around : Around
  pub inner : Inner

-- a whole script
abbrev pub whole : Block → Part
whole b = record { around = top; inner = within b }

abbrev pub else_marks : Tests → Block → ℕ → List Marked
else_marks ts b n = tests_marks ts ++ (block_marks b ++ at n (is_command command.Else) ∷ [])

abbrev pub around_marks : Around → List Marked
around_marks top = []
around_marks (in_arm a ts) = around_marks a ++ tests_marks ts
around_marks (in_else a ts b n) = around_marks a ++ else_marks ts b n

abbrev pub inner_marks : Inner → List Marked
inner_marks (within b) = block_marks b
inner_marks (creating c) = created_marks c

-- how the lines spell it
abbrev pub part_marks : Part → List Marked
part_marks p = around_marks p.around ++ inner_marks p.inner

-- how many `if`s are open
abbrev pub depth : Around → ℕ
depth top = 0
depth (in_arm a ts) = depth a + 1
depth (in_else a ts b n) = depth a + 1

-- how many more may be open
abbrev pub room : Around → ℕ
room a = 64 - depth a

-- `if`s stand inside of one another at most 64 deep
abbrev pub IsShallowAround : Around → Type 0
IsShallowAround top = ⊤
IsShallowAround (in_arm a ts) = IsShallowAround a × (depth a < 64) × AreShallow (room a) ts
IsShallowAround (in_else a ts b n) =
    IsShallowAround a × (depth a < 64) × AreShallow (room a) ts × IsShallow (room a - 1) b

abbrev pub IsShallowInner : ℕ → Inner → Type 0
IsShallowInner most (within b) = IsShallow most b
IsShallowInner most (creating c) = AreShallowBefore most c

abbrev pub IsShallowPart : Part → Type 0
IsShallowPart p = IsShallowAround p.around × IsShallowInner (room p.around) p.inner

-- the number of the outermost open `if`
abbrev pub outermost : Around → Option ℕ
outermost top = None
outermost (in_arm a ts) = Some (unwrap_or (outermost a) (opened_at ts))
outermost (in_else a ts b n) = Some (unwrap_or (outermost a) (opened_at ts))

-- what isn't closed first
abbrev pub open_inner : Inner → Option ScriptError
open_inner (within b) = None
open_inner (creating c) = Some (error.CreateNotClosed (created_at c))

abbrev pub open_first : Option ℕ → Inner → Option ScriptError
open_first None inner = open_inner inner
open_first (Some n) inner = Some (error.IfNotClosed n)

abbrev pub not_closed : Part → Option ScriptError
not_closed p = open_first (outermost p.around) p.inner
