-- Parts that may be there, as the forms of a plan have them.
use Rattle.std.proofs.Common.{◌≡◌, subst, Option, Some, None}
use Rattle.std.specs.declared.alloc.Global.{Global}
use Rattle.std.specs.declared.boxed.Box.{Box}
use Rattle.rel_lexer.specs.declared.place.Place.{Place}
use Rattle.rel_value.specs.Plain.{PlainKind}
use Rattle.rel_types.specs.declared.head.Head.{Head}
use Rattle.rel_types.specs.declared.head.Head.TheVariants as head
use Rattle.rel_types.specs.declared.node.Node as plan
use Rattle.rel_types.specs.Plans.{HeldNode, a_node, no_node}
use Rattle.rel_types.specs.Views.{shown_node}
use Rattle.rel_trace.specs.Ones.{fold_kind}
use Rattle.rel_trace.specs.Twos.{argument_kind, each_kind, sift_kind}
use Rattle.rel_nodes.specs.Meaning.{fold_of}
use Rattle.rel_nodes.specs.Core.{Core, property_core, Alike, argued_core, core_of, filtered_core, head_core, is_there, over_core}
use Rattle.rel_nodes.specs.HeldParts.{AlikeHeld, argued_part, filtered_part, head_part, over_part}
use Rattle.rel_nodes.proofs.Alikes.{alike_one, alike_same, alike_trans, alike_two}
use Rattle.rel_nodes.proofs.Joining.{same}

-- a part that is on the heap
pub boxed : (c : Core) (m : plan.Node) (b : Box plan.Node Global) → m ≡ b.value → Alike c (core_of (shown_node m)) → Alike c (core_of (shown_node b.value))
boxed c m b e h = subst (λ (n : plan.Node). Alike c (core_of (shown_node n))) e h

pub argued_held : (x : Option Core) (h : HeldNode) (n c : Core) → n ≡ argued_part x c → AlikeHeld x h → Alike n (argued_core h c)
argued_held None no_node n c e h = alike_same n c e
argued_held (Some a) (a_node m) n c e h =
    alike_trans n (argued_part (Some a) c) (argued_core (a_node m) c) (alike_same n (argued_part (Some a) c) e)
    (alike_two argument_kind a (core_of m) c c h (same c))
argued_held None (a_node m) n c e h = absurd h
argued_held (Some a) no_node n c e h = absurd h

pub over_held : (p : Place) (x : Option Core) (h : HeldNode) (n c : Core) → n ≡ over_part p x c → AlikeHeld x h → Alike n (over_core p h c)
over_held p None no_node n c e h = alike_same n c e
over_held p (Some o) (a_node m) n c e h =
    alike_trans n (over_part p (Some o) c) (over_core p (a_node m) c) (alike_same n (over_part p (Some o) c) e)
    (alike_two (each_kind p) o (core_of m) c c h (same c))
over_held p None (a_node m) n c e h = absurd h
over_held p (Some o) no_node n c e h = absurd h

pub filtered_held : (p : Place) (x : Option Core) (h : HeldNode) (n c : Core) → n ≡ filtered_part p x c → AlikeHeld x h → Alike n (filtered_core p h c)
filtered_held p None no_node n c e h = alike_same n c e
filtered_held p (Some f) (a_node m) n c e h =
    alike_trans n (filtered_part p (Some f) c) (filtered_core p (a_node m) c) (alike_same n (filtered_part p (Some f) c) e)
    (alike_two (sift_kind p) c c f (core_of m) (same c) h)
filtered_held p None (a_node m) n c e h = absurd h
filtered_held p (Some f) no_node n c e h = absurd h

head_alike : (k : PlainKind) (p : Place) (h : Head) (a : HeldNode) (x : Option Core) (o : HeldNode) → AlikeHeld x o → Alike (head_part k p h a x) (head_core k p h a o)
head_alike k p (head.Property id) a None no_node q = same (property_core id (is_there a) (is_there no_node) p)
head_alike k p (head.Property id) a (Some c) (a_node m) q =
    alike_two (each_kind p) c (core_of m) (property_core id (is_there a) (is_there (a_node m)) p) (property_core id (is_there a) (is_there (a_node m)) p) q
    (same (property_core id (is_there a) (is_there (a_node m)) p))
head_alike k p (head.Aggregate g) a None no_node q = same (head_part k p (head.Aggregate g) a None)
head_alike k p (head.Aggregate g) a (Some c) (a_node m) q = alike_one (fold_kind (fold_of g k a) p) c (core_of m) q
head_alike k p h a None (a_node m) q = absurd q
head_alike k p h a (Some c) no_node q = absurd q

pub head_held : (k : PlainKind) (p : Place) (h : Head) (a : HeldNode) (x : Option Core) (o : HeldNode) (n : Core) → n ≡ head_part k p h a x → AlikeHeld x o → Alike n (head_core k p h a o)
head_held k p h a x o n e q =
    alike_trans n (head_part k p h a x) (head_core k p h a o) (alike_same n (head_part k p h a x) e) (head_alike k p h a x o q)
