-- Plans without where they lie in memory. A list grows at its end.
use Rattle.std.specs.Prelude.{ℕ, ℤ, Bool, false, ◌||◌, List, Option, Some, None}
use Rattle.rel_lexer.specs.declared.place.Place.{Place}
use Rattle.rel_lexer.specs.declared.operator.UnarySign.{UnarySign}
use Rattle.rel_lexer.specs.declared.operator.BinarySign.{BinarySign}
use Rattle.rel_value.specs.Plain.{PlainKind, PlainKinds, no_kinds, more_kinds, tuples}
use Rattle.rel_types.specs.declared.head.Head.{Head}
use Rattle.rel_types.specs.declared.cast_steps.CastStep.{CastStep}

mutual
  -- the kind of the values, whether there may be none or several, and what gives them
  pub data PlainNode : Type 0 where
    node : PlainKind → Bool → PlainForm → PlainNode

  pub data PlainForm : Type 0 where
    numeral : Place → ℤ → PlainForm
    literal : Place → List ℕ → PlainForm
    it : Place → PlainForm
    -- the argument, the filter and the object
    phrase : Place → Head → HeldNode → HeldNode → HeldNode → PlainForm
    -- the body, the filter and the object
    body : Place → PlainNode → HeldNode → HeldNode → PlainForm
    cast : PlainNode → List CastStep → PlainForm
    unary : Place → UnarySign → PlainNode → PlainForm
    chain : PlainNode → LinkedNodes → PlainForm
    conditional : Place → PlainNode → PlainNode → PlainNode → PlainForm
    tuple : Nodes → PlainForm
    collection : Nodes → PlainForm

  pub data HeldNode : Type 0 where
    no_node : HeldNode
    a_node : PlainNode → HeldNode

  pub data LinkedNodes : Type 0 where
    no_links : LinkedNodes
    more_links : LinkedNodes → Place → BinarySign → PlainNode → LinkedNodes

  pub data Nodes : Type 0 where
    no_nodes : Nodes
    more_nodes : Nodes → PlainNode → Nodes

abbrev pub kind_of : PlainNode → PlainKind
kind_of (node k plural form) = k

abbrev pub is_plural : PlainNode → Bool
is_plural (node k plural form) = plural

abbrev pub form_of : PlainNode → PlainForm
form_of (node k plural form) = form

abbrev pub held_kind : HeldNode → Option PlainKind
held_kind no_node = None
held_kind (a_node n) = Some (kind_of n)

abbrev pub held_plural : HeldNode → Bool
held_plural no_node = false
held_plural (a_node n) = is_plural n

-- the kind of the first of some nodes
abbrev pub first_kind : Nodes → Option PlainKind
first_kind no_nodes = None
first_kind (more_nodes no_nodes n) = Some (kind_of n)
first_kind (more_nodes ns n) = first_kind ns

abbrev pub node_kinds : Nodes → PlainKinds
node_kinds no_nodes = no_kinds
node_kinds (more_nodes ns n) = more_kinds (node_kinds ns) (kind_of n)

-- the kind of a tuple of these parts, which are two or more
abbrev pub tuple_kind : Nodes → Option PlainKind
tuple_kind no_nodes = None
tuple_kind (more_nodes no_nodes n) = None
tuple_kind ns = Some (tuples (node_kinds ns))

abbrev pub any_plural : Nodes → Bool
any_plural no_nodes = false
any_plural (more_nodes ns n) = any_plural ns || is_plural n
