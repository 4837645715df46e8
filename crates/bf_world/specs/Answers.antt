-- What holds of every answer of a look, whatever the machine.
use Rattle.std.specs.Prelude.{pos, ◌≤ℤ◌, ⊤, All, map}
use Rattle.std.specs.List.Sorted.{IsStrictlySortedBy}
use Rattle.desk_base.specs.Moments.{IsMoment}
use Rattle.line_forms.specs.Paths.{IsPart}
use Rattle.line_forms.specs.Versions.{IsVersion}
use Rattle.bf_world.specs.declared.answer.Answer.{Answer}
use Rattle.bf_world.specs.declared.answer.Answer.TheVariants as answer
use Rattle.bf_world.specs.declared.command.Command.{Command}
use Rattle.bf_world.specs.declared.command.Command.TheVariants as command
use Rattle.bf_world.specs.Maps.{byte_order}

-- Moments are in their range, sizes 0 or more, names of entries one part of a path, and versions of their form.
abbrev pub IsGoodAnswer : Answer → Type 0
IsGoodAnswer (answer.File size modified) = (pos 0 ≤ℤ size) × IsMoment modified
IsGoodAnswer (answer.Entries entries) = All (λ e. IsPart e.name) entries
IsGoodAnswer (answer.System name version) = IsVersion version
IsGoodAnswer (answer.Packages rows) = All (λ row. IsVersion row.version) rows
IsGoodAnswer (answer.Settings rows) = All (λ row. IsMoment row.date) rows
IsGoodAnswer _ = ⊤

-- The names of entries, processes, packages and settings ascend strictly in byte order.
abbrev pub HasAscendingNames : Answer → Type 0
HasAscendingNames (answer.Entries entries) = IsStrictlySortedBy byte_order (map (λ e. e.name) entries)
HasAscendingNames (answer.Names names) = IsStrictlySortedBy byte_order names
HasAscendingNames (answer.Packages rows) = IsStrictlySortedBy byte_order (map (λ row. row.name) rows)
HasAscendingNames (answer.Settings rows) = IsStrictlySortedBy byte_order (map (λ row. row.name) rows)
HasAscendingNames _ = ⊤

-- The date of a command that has one is a moment.
abbrev pub HasMoment : Command → Type 0
HasMoment (command.Put name value date) = IsMoment date
HasMoment (command.Drop name date) = IsMoment date
HasMoment _ = ⊤
