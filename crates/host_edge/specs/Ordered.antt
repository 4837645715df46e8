-- The entries that a folder shows. Only private functions cite these definitions.
use Rattle.std.specs.Prelude.{◌≡◌, List, map}
use Rattle.std.specs.declared.cmp.Ordering.TheVariants.{Less}
use Rattle.std.specs.List.{AllByRecursion}
use Rattle.line_forms.specs.Paths.{IsPart}
use Rattle.bf_world.specs.declared.answer.Answer.TheVariants as answer
use Rattle.bf_world.specs.declared.answer.Entry.{Entry}
use Rattle.bf_world.specs.Answers.{IsGoodAnswer, HasAscendingNames}
use Rattle.bf_world.specs.Maps.{byte_order}

-- They are a good answer, and their names ascend.
abbrev pub AreEntries : List Entry → Type 0
AreEntries entries = IsGoodAnswer (answer.Entries entries) × HasAscendingNames (answer.Entries entries)

-- An entry can stand behind these: its name is one part of a path, and theirs are below it.
abbrev pub CanFollow : List Entry → Entry → Type 0
CanFollow entries entry =
    IsPart entry.name × AllByRecursion (λ name. byte_order name entry.name ≡ Less) (map (λ e. e.name) entries)
