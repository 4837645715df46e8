-- Parts that may be there, in the forms of a plan. No public contract speaks of it.
use Rattle.std.specs.Prelude.{⊤, Bool, true, false, Option, Some, None}
use Rattle.std.specs.declared.alloc.Global.{Global}
use Rattle.std.specs.declared.boxed.Box.{Box}
use Rattle.rel_lexer.specs.declared.place.Place.{Place}
use Rattle.rel_value.specs.Plain.{PlainKind}
use Rattle.rel_types.specs.declared.head.Head.{Head}
use Rattle.rel_types.specs.declared.head.Head.TheVariants as head
use Rattle.rel_types.specs.Plans.{HeldNode, no_node, a_node}
use Rattle.rel_trace.specs.Ones.{fold_kind}
use Rattle.rel_trace.specs.Twos.{each_kind, sift_kind, argument_kind}
use Rattle.rel_nodes.specs.declared.node.Node.{Node}
use Rattle.rel_nodes.specs.Meaning.{fold_of}
use Rattle.rel_nodes.specs.Core.{Core, nothing_core, property_core, one_core, two_core, Alike, core_of, is_there}
use Rattle.rel_nodes.specs.Nodes.{boxed_shape}

abbrev pub part_shape : Option (Box Node Global) → Option Core
part_shape None = None
part_shape (Some n) = Some (boxed_shape n)

-- both are there and mean the same, or neither is
abbrev pub AlikeHeld : Option Core → HeldNode → Type 0
AlikeHeld None no_node = ⊤
AlikeHeld (Some c) (a_node n) = Alike c (core_of n)
AlikeHeld None (a_node n) = ⊥
AlikeHeld (Some c) no_node = ⊥

abbrev pub is_part : Option Core → Bool
is_part None = false
is_part (Some c) = true

abbrev pub argued_part : Option Core → Core → Core
argued_part None c = c
argued_part (Some a) c = two_core argument_kind a c

abbrev pub over_part : Place → Option Core → Core → Core
over_part p None c = c
over_part p (Some o) c = two_core (each_kind p) o c

abbrev pub gathered_part : Option Core → Core
gathered_part None = nothing_core
gathered_part (Some o) = o

abbrev pub filtered_part : Place → Option Core → Core → Core
filtered_part p None c = c
filtered_part p (Some f) c = two_core (sift_kind p) c f

abbrev pub head_part : PlainKind → Place → Head → HeldNode → Option Core → Core
head_part k p (head.Property id) a o = over_part p o (property_core id (is_there a) (is_part o) p)
head_part k p (head.Aggregate g) a o = one_core (fold_kind (fold_of g k a) p) (gathered_part o)
