-- Refusals of lines.
use Rattle.std.specs.Prelude.{ℕ, ◌≤◌, List, length}
use Rattle.script_text.specs.declared.error.Refusal.{Refusal}
use Rattle.script_text.specs.declared.error.Refusal.TheVariants as refusal
use Rattle.script_text.specs.declared.error.ScriptError.{ScriptError}
use Rattle.script_text.specs.declared.error.ScriptError.TheVariants as error

-- the refusal of the line with this number
abbrev pub numbered : ℕ → Refusal → ScriptError
numbered n refusal.NoCommand = error.NoCommand n
numbered n refusal.BraceNotClosed = error.BraceNotClosed n
numbered n refusal.Memory = error.Memory

-- the line of an error, 0 where it has none
abbrev pub error_line : ScriptError → ℕ
error_line (error.NoCommand line) = line
error_line (error.IfNotClosed line) = line
error_line (error.StrayElse line) = line
error_line (error.BraceNotClosed line) = line
error_line (error.CreateNotClosed line) = line
error_line error.Memory = 0

-- the number of one of so many lines, counted from 1
abbrev pub IsLineNumber : ℕ → ℕ → Type 0
IsLineNumber count number = (1 ≤ number) × (number ≤ count)

-- the line of the error is one of these
abbrev pub TellsLineOf : List (List ℕ) → ScriptError → Type 0
TellsLineOf lines e = IsLineNumber (length lines) (error_line e)
