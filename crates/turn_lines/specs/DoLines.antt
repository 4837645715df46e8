-- What is written of a command that was done on a machine, or that the machine refused.
use Rattle.std.specs.Prelude.{ℕ, List, [], ◌∷◌, ◌++◌, length, flat_map, codes, decimal}
use Rattle.std.specs.Fmt.{signed_decimal}
use Rattle.line_forms.specs.Lines.{ended_line}
use Rattle.bf_world.specs.declared.command.Command.{Command}
use Rattle.bf_world.specs.declared.command.Command.TheVariants.{Write, Append, Delete, Copy, Move, MakeFolder, DropFolder, Start, Put, Drop, Place}
use Rattle.bf_world.specs.declared.command.Acted.{Acted}
use Rattle.bf_world.specs.declared.command.Acted.TheVariants.{Refused}
use Rattle.bf_world.specs.Reasons.{reason_name}
use Rattle.bf_machine.specs.Steps.{Answered}

-- a text behind its space, which stands there where the text is empty too
abbrev pub spaced : List ℕ → List ℕ
spaced text = 32 ∷ text

-- words and one text, or two
unfoldable pub with_one : List ℕ → List ℕ → List ℕ
with_one words text = words ++ spaced text

unfoldable pub with_two : List ℕ → List ℕ → List ℕ → List ℕ
with_two words first second = words ++ spaced first ++ spaced second

unfoldable pub with_three : List ℕ → List ℕ → List ℕ → List ℕ → List ℕ
with_three words first second third = words ++ spaced first ++ spaced second ++ spaced third

-- A command: its words, and then its paths, lines, names and values with their bytes as they are. Of what is written, appended or placed
-- stands how many bytes were given, of a program not whether its window is hidden, and a date in seconds since 1970-01-01 00:00:00 UTC.
abbrev pub command_text : Command → List ℕ
command_text (Write path content) = with_two (codes "write") path (decimal (length content))
command_text (Append path content) = with_two (codes "append") path (decimal (length content))
command_text (Delete path) = with_one (codes "delete") path
command_text (Copy from to) = with_two (codes "copy") from to
command_text (Move from to) = with_two (codes "move") from to
command_text (MakeFolder path) = with_one (codes "make folder") path
command_text (DropFolder path) = with_one (codes "drop folder") path
command_text (Start line hidden) = with_one (codes "start") line
command_text (Put name value date) = with_three (codes "put") name (signed_decimal date) value
command_text (Drop name date) = with_two (codes "drop") name (signed_decimal date)
command_text (Place name content) = with_two (codes "place") name (decimal (length content))

-- that it was refused, and why; nothing where it was done or started
abbrev pub refusal_text : Acted → List ℕ
refusal_text (Refused reason) = codes " refused " ++ reason_name reason
refusal_text answer = []

-- the line of a command and what it was answered
abbrev pub do_line : Answered → List ℕ
do_line a = ended_line (codes "do " ++ command_text a.command ++ refusal_text a.answer)

-- those of commands, in their order
abbrev pub do_lines : List Answered → List ℕ
do_lines answers = flat_map do_line answers
