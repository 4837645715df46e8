-- Properties that are given what they ask for.
use Rattle.std.specs.Prelude.{◌≡◌, ◌≢◌, true, Option, option_map, IsSome}
use Rattle.bf_world.specs.Worlds.{WorldState}
use Rattle.rel_value.specs.declared.property.PropertyId.{PropertyId}
use Rattle.rel_value.specs.declared.property.PropertyId.TheVariants as id
use Rattle.rel_value.specs.Plain.{Plain, kind_of}
use Rattle.rel_types.specs.declared.head.Head.{Head}
use Rattle.rel_types.specs.declared.head.Head.TheVariants as head
use Rattle.rel_types.specs.Rows.{Asked, Row, admits, given_by}
use Rattle.rel_sources.specs.declared.scene.Scene.{Scene}
use Rattle.rel_sources.specs.Traces.{none}
use Rattle.rel_inspect.specs.Offered.{text_in, folder_in, bounds_in}
use Rattle.rel_inspect.specs.Props.{prop}

-- A property takes its argument and its object: it looks, makes a turn, gives a value or finds it too long. Those that may find nothing
-- without a look or a turn, as of a text that is no path, can read them.
abbrev pub Takes : PropertyId → Option Plain → Option Plain → WorldState → Scene → Type 0
Takes id.FileAt a o w s = IsSome (text_in a)
Takes id.FolderAt a o w s = IsSome (text_in a)
Takes id.FileNamed a o w s = IsSome (text_in a) × IsSome (folder_in o)
Takes id.FolderNamed a o w s = IsSome (text_in a) × IsSome (folder_in o)
Takes id.IntegerIn a o w s = IsSome (bounds_in a)
Takes id.First a o w s = IsSome (text_in a) × IsSome (text_in o)
Takes id.Last a o w s = IsSome (text_in a) × IsSome (text_in o)
Takes id.Parameter a o w s = IsSome (text_in a)
Takes id.ExitCode a o w s = Unit {0}
Takes i a o w s = prop i a o w s ≢ none

-- so it is of each argument and each object of the kinds that are asked for
abbrev pub HeadTakes : Head → Asked → Asked → Type 0
HeadTakes (head.Property i) for_argument for_object =
    (a o : Option Plain) → admits for_argument (given_by (option_map kind_of a)) ≡ true → admits for_object (given_by (option_map kind_of o)) ≡ true
    → (w : WorldState) (s : Scene) → Takes i a o w s
HeadTakes (head.Aggregate g) for_argument for_object = Unit {0}

-- the same of what a row of the tables names
abbrev pub RowTakes : Row → Type 0
RowTakes row = HeadTakes row.head row.argument row.object
