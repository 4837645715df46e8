-- Sorts of commands. Only private functions cite these definitions.
use Rattle.std.specs.Prelude.{⊤}
use Rattle.bf_world.specs.declared.command.Command.{Command}
use Rattle.bf_world.specs.declared.command.Command.TheVariants as command

-- The command starts no program.
abbrev pub IsChange : Command → Type 0
IsChange (command.Start line hidden) = ⊥
IsChange _ = ⊤
