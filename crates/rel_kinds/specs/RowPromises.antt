-- What a row of the tables of names promises of the values.
use Rattle.std.specs.Prelude.{◌≡◌, true, false, Option, None}
use Rattle.rel_lexer.specs.declared.place.Place.{Place}
use Rattle.bf_world.specs.Worlds.{WorldState}
use Rattle.rel_value.specs.declared.property.PropertyId.{PropertyId}
use Rattle.rel_value.specs.Plain.{Plain, PlainKind}
use Rattle.rel_types.specs.declared.head.Aggregate.{Aggregate}
use Rattle.rel_types.specs.declared.head.Head.{Head}
use Rattle.rel_types.specs.declared.head.Head.TheVariants as head
use Rattle.rel_types.specs.Plans.{HeldNode}
use Rattle.rel_types.specs.Rows.{Asked, Row, admits, given_by, given_kind, scalar_kind}
use Rattle.rel_sources.specs.declared.scene.Scene.{Scene}
use Rattle.rel_inspect.specs.Props.{prop}
use Rattle.rel_trace.specs.Trace.{Trace}
use Rattle.rel_nodes.specs.Meaning.{placed, fold_of, aggregated}
use Rattle.rel_kinds.specs.Giving.{GivesKind}

-- a property gives values of this kind, whatever its argument and its object
abbrev pub PropertyKeeps : PropertyId → PlainKind → Type 0
PropertyKeeps id k =
    (p : Place) (argument object : Option Plain) (w : WorldState) (s : Scene) → GivesKind k (placed p (prop id argument object w s))

-- an aggregate wants an object, and of values of each kind that it asks for it gives values of this kind
abbrev pub AggregateKeeps : Aggregate → Asked → PlainKind → Type 0
AggregateKeeps g asked k =
    (admits asked (given_by None) ≡ false)
    × ((l : PlainKind) → admits asked (given_kind l) ≡ true → (argument : HeldNode) (separator : Option Plain) (p : Place) (t : Trace) → GivesKind l t
    → GivesKind k (aggregated (fold_of g k argument) p separator t))

-- what stands behind a name gives values of this kind
abbrev pub HeadKeeps : Head → Asked → PlainKind → Type 0
HeadKeeps (head.Property id) asked k = PropertyKeeps id k
HeadKeeps (head.Aggregate g) asked k = AggregateKeeps g asked k

-- a row gives values of the kind that it says
abbrev pub RowKeeps : Row → Type 0
RowKeeps row = HeadKeeps row.head row.object (scalar_kind row.gives)
