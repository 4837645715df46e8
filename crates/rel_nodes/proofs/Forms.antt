-- Forms around parts that mean the same.
use Rattle.std.proofs.Common.{◌≡◌, Bool, true, false, refl, ap, ◌∙◌}
use Rattle.rel_lexer.specs.declared.place.Place.{Place}
use Rattle.rel_value.specs.Plain.{PlainKind}
use Rattle.rel_types.specs.declared.head.Head.{Head}
use Rattle.rel_types.specs.declared.head.Head.TheVariants as head
use Rattle.rel_types.specs.Plans.{HeldNode, no_node, a_node, phrase}
use Rattle.rel_trace.specs.Ones.{OneKind, single_kind}
use Rattle.rel_trace.specs.Twos.{TwoKind, each_kind, sift_kind, argument_kind}
use Rattle.rel_nodes.specs.Core.{Core, one_core, two_core, choice_core, Alike, core_of, form_core, head_core, singly_core, argued_core, over_core, filtered_core}
use Rattle.rel_nodes.proofs.Alikes.{alike_choice, alike_one, alike_same, alike_trans, alike_two}
use Rattle.rel_nodes.proofs.Joining.{same}

singly_alike : (plural : Bool) (p : Place) (c d : Core) → Alike c d → Alike (singly_core plural p c) (singly_core plural p d)
singly_alike true p c d h = h
singly_alike false p c d h = alike_one (single_kind p) c d h

argued_alike : (x : HeldNode) (c d : Core) → Alike c d → Alike (argued_core x c) (argued_core x d)
argued_alike no_node c d h = h
argued_alike (a_node n) c d h = alike_two argument_kind (core_of n) (core_of n) c d (same (core_of n)) h

pub over_alike : (p : Place) (o : HeldNode) (c d : Core) → Alike c d → Alike (over_core p o c) (over_core p o d)
over_alike p no_node c d h = h
over_alike p (a_node o) c d h = alike_two (each_kind p) (core_of o) (core_of o) c d (same (core_of o)) h

filtered_alike : (p : Place) (f : HeldNode) (c d : Core) → Alike c d → Alike (filtered_core p f c) (filtered_core p f d)
filtered_alike p no_node c d h = h
filtered_alike p (a_node f) c d h = alike_two (sift_kind p) c d (core_of f) (core_of f) h (same (core_of f))

-- what is kept of some values, and of these one or all
pub kept_alike : (plural : Bool) (p : Place) (f : HeldNode) (n kept c d : Core) → n ≡ singly_core plural p kept → Alike kept (filtered_core p f c) → Alike c d → Alike n (singly_core plural p (filtered_core p f d))
kept_alike plural p f n kept c d e h k =
    alike_trans n (singly_core plural p kept) (singly_core plural p (filtered_core p f d)) (alike_same n (singly_core plural p kept) e)
    (singly_alike plural p kept (filtered_core p f d) (alike_trans kept (filtered_core p f c) (filtered_core p f d) h (filtered_alike p f c d k)))

pub argued_on : (x : HeldNode) (n c d : Core) → Alike n (argued_core x c) → Alike c d → Alike n (argued_core x d)
argued_on x n c d h k = alike_trans n (argued_core x c) (argued_core x d) h (argued_alike x c d k)

pub over_on : (p : Place) (o : HeldNode) (n c d : Core) → Alike n (over_core p o c) → Alike c d → Alike n (over_core p o d)
over_on p o n c d h k = alike_trans n (over_core p o c) (over_core p o d) h (over_alike p o c d k)

-- a node that is made of others has the form of theirs
pub one_on : (k l : OneKind) (n c d : Core) → n ≡ one_core k c → k ≡ l → Alike c d → Alike n (one_core l d)
one_on k l n c d e q h =
    alike_trans n (one_core l c) (one_core l d) (alike_same n (one_core l c) (e ∙ ap (λ z. one_core z c) q)) (alike_one l c d h)

pub two_on : (k l : TwoKind) (n c c' d d' : Core) → n ≡ two_core k c d → k ≡ l → Alike c c' → Alike d d' → Alike n (two_core l c' d')
two_on k l n c c' d d' e q h g =
    alike_trans n (two_core l c d) (two_core l c' d') (alike_same n (two_core l c d) (e ∙ ap (λ z. two_core z c d) q)) (alike_two l c c' d d' h g)

pub choice_on : (n c c' d d' e e' : Core) → n ≡ choice_core c d e → Alike c c' → Alike d d' → Alike e e' → Alike n (choice_core c' d' e')
choice_on n c c' d d' e e' q h g k =
    alike_trans n (choice_core c d e) (choice_core c' d' e') (alike_same n (choice_core c d e) q) (alike_choice c c' d d' e e' h g k)

phrase_form : (k : PlainKind) (plural : Bool) (p : Place) (h : Head) (a f o : HeldNode) → singly_core plural p (filtered_core p f (argued_core a (head_core k p h a o))) ≡ form_core k plural (phrase p h a f o)
phrase_form k plural p (head.Property id) a f o = refl
phrase_form k plural p (head.Aggregate g) a f o = refl

pub phrase_on : (k : PlainKind) (plural : Bool) (p : Place) (h : Head) (a f o : HeldNode) (n kept values inside : Core) → Alike inside (head_core k p h a o) → Alike values (argued_core a inside) → Alike kept (filtered_core p f values) → n ≡ singly_core plural p kept → Alike n (form_core k plural (phrase p h a f o))
phrase_on k plural p h a f o n kept values inside q r t e =
    let whole = singly_core plural p (filtered_core p f (argued_core a (head_core k p h a o))) in
    alike_trans n whole (form_core k plural (phrase p h a f o))
    (kept_alike plural p f n kept values (argued_core a (head_core k p h a o)) e t (argued_on a values inside (head_core k p h a o) r q))
    (alike_same whole (form_core k plural (phrase p h a f o)) (phrase_form k plural p h a f o))
