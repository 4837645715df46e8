-- What is made of each form of a plan of the code.
use Rattle.std.proofs.Common.{◌≡◌, ℤ, ℕ, Bool, List, [], ◌∷◌, sym, ap, ◌∙◌, Option}
use Rattle.std.specs.declared.alloc.Global.{Global}
use Rattle.std.specs.declared.boxed.Box.{Box}
use Rattle.rel_lexer.specs.declared.place.Place.{Place}
use Rattle.rel_lexer.specs.declared.operator.UnarySign.{UnarySign}
use Rattle.rel_value.specs.Plain.{PlainKind, integer, words}
use Rattle.rel_types.specs.declared.cast_steps.CastStep.{CastStep}
use Rattle.rel_types.specs.declared.head.Head.{Head}
use Rattle.rel_types.specs.declared.node.Form.{Form}
use Rattle.rel_types.specs.declared.node.Form.TheVariants.{Number, Literal, It, Phrase, Body, Cast, Unary, Chain, If, Tuple, Collection}
use Rattle.rel_types.specs.declared.node.Links.{Links}
use Rattle.rel_types.specs.declared.node.Node.{Node}
use Rattle.rel_types.specs.declared.node.NodeList.{NodeList}
use Rattle.rel_types.specs.Plans.{PlainForm, LinkedNodes, no_links, more_links, numeral, literal, it, phrase, body, cast, unary, chain, conditional, tuple, collection}
use Rattle.rel_types.specs.Views.{shown_form, shown_held, shown_links, shown_node, shown_nodes}
use Rattle.rel_trace.specs.Ones.{OneKind}
use Rattle.rel_trace.specs.Twos.{left_kind}
use Rattle.rel_nodes.specs.Core.{Core, constant_core, it_core, one_core, two_core, choice_core, Alike, argued_core, cast_arrow, casted_core, chained_core, collected_core, core_of, filtered_core, form_core, head_core, over_core, prefix_kind, singly_core, tuple_core}
use Rattle.rel_nodes.proofs.Alikes.{alike_same, alike_trans, alike_two}
use Rattle.rel_nodes.proofs.Forms.{choice_on, kept_alike, one_on, over_on, phrase_on}
use Rattle.rel_nodes.proofs.Joining.{same}
use Rattle.rel_nodes.proofs.Lists.{infix_alike}
use Rattle.rel_nodes.proofs.Shown.{shown-Number, shown-Literal, shown-It, shown-Phrase, shown-Body, shown-Cast, shown-Unary, shown-Chain, shown-If, shown-Tuple, shown-Collection}

as_shown : (k : PlainKind) (l : Bool) (form : Form) (f : PlainForm) (n : Core) → shown_form form ≡ f → Alike n (form_core k l f) → Alike n (form_core k l (shown_form form))
as_shown k l form f n e h = alike_trans n (form_core k l f) (form_core k l (shown_form form)) h (alike_same (form_core k l f) (form_core k l (shown_form form)) (ap (form_core k l) (sym e)))

pub number_made : (k : PlainKind) (l : Bool) (form : Form) (p : Place) (z : ℤ) (n : Core) → form ≡ Number p z → n ≡ constant_core (integer z) → Alike n (form_core k l (shown_form form))
number_made k l form p z n is e = as_shown k l form (numeral p z) n (ap shown_form is ∙ shown-Number p z) (alike_same n (constant_core (integer z)) e)

pub literal_made : (k : PlainKind) (l : Bool) (form : Form) (p : Place) (t : List ℕ) (n : Core) → form ≡ Literal p t → n ≡ constant_core (words t) → Alike n (form_core k l (shown_form form))
literal_made k l form p t n is e = as_shown k l form (literal p t) n (ap shown_form is ∙ shown-Literal p t) (alike_same n (constant_core (words t)) e)

pub it_made : (k : PlainKind) (l : Bool) (form : Form) (p : Place) (n : Core) → form ≡ It p → n ≡ it_core → Alike n (form_core k l (shown_form form))
it_made k l form p n is e = as_shown k l form (it p) n (ap shown_form is ∙ shown-It p) (alike_same n it_core e)

pub phrase_made : (k : PlainKind) (l : Bool) (form : Form) (p : Place) (h : Head) (a f o : Option (Box Node Global)) (n kept values inside : Core) → form ≡ Phrase p h a f o → Alike inside (head_core k p h (shown_held a) (shown_held o)) → Alike values (argued_core (shown_held a) inside) → Alike kept (filtered_core p (shown_held f) values) → n ≡ singly_core l p kept → Alike n (form_core k l (shown_form form))
phrase_made k l form p h a f o n kept values inside is q r t e =
    as_shown k l form (phrase p h (shown_held a) (shown_held f) (shown_held o)) n (ap shown_form is ∙ shown-Phrase p h a f o)
    (phrase_on k l p h (shown_held a) (shown_held f) (shown_held o) n kept values inside q r t e)

pub body_made : (k : PlainKind) (l : Bool) (form : Form) (p : Place) (b : Box Node Global) (f o : Option (Box Node Global)) (n kept values inner : Core) → form ≡ Body p b f o → Alike inner (core_of (shown_node b.value)) → Alike values (over_core p (shown_held o) inner) → Alike kept (filtered_core p (shown_held f) values) → n ≡ singly_core l p kept → Alike n (form_core k l (shown_form form))
body_made k l form p b f o n kept values inner is q r t e =
    as_shown k l form (body p (shown_node b.value) (shown_held f) (shown_held o)) n (ap shown_form is ∙ shown-Body p b f o)
    (kept_alike l p (shown_held f) n kept values (over_core p (shown_held o) (core_of (shown_node b.value))) e t (over_on p (shown_held o) values inner (core_of (shown_node b.value)) r q))

casted_alike : (cs : List CastStep) (c d : Core) → Alike c d → Alike (casted_core cs c) (casted_core cs d)
casted_alike [] c d h = h
casted_alike (x ∷ xs) c d h = casted_alike xs (two_core left_kind c (cast_arrow x)) (two_core left_kind d (cast_arrow x)) (alike_two left_kind c d (cast_arrow x) (cast_arrow x) h (same (cast_arrow x)))

pub cast_made : (k : PlainKind) (l : Bool) (form : Form) (b : Box Node Global) (cs : List CastStep) (n part : Core) → form ≡ Cast b cs → Alike part (core_of (shown_node b.value)) → Alike n (casted_core cs part) → Alike n (form_core k l (shown_form form))
cast_made k l form b cs n part is q r =
    as_shown k l form (cast (shown_node b.value) cs) n (ap shown_form is ∙ shown-Cast b cs)
    (alike_trans n (casted_core cs part) (casted_core cs (core_of (shown_node b.value))) r (casted_alike cs part (core_of (shown_node b.value)) q))

pub unary_made : (k : PlainKind) (l : Bool) (form : Form) (p : Place) (g : UnarySign) (b : Box Node Global) (o : OneKind) (n part : Core) → form ≡ Unary p g b → Alike part (core_of (shown_node b.value)) → o ≡ prefix_kind g p → n ≡ one_core o part → Alike n (form_core k l (shown_form form))
unary_made k l form p g b o n part is q r e =
    as_shown k l form (unary p g (shown_node b.value)) n (ap shown_form is ∙ shown-Unary p g b)
    (one_on o (prefix_kind g p) n part (core_of (shown_node b.value)) e r q)

chained_alike : (ls : LinkedNodes) (c d : Core) → Alike c d → Alike (chained_core ls c) (chained_core ls d)
chained_alike no_links c d h = h
chained_alike (more_links ls p g n) c d h = infix_alike g p (chained_core ls c) (chained_core ls d) (core_of n) (core_of n) (chained_alike ls c d h) (same (core_of n))

pub chain_made : (k : PlainKind) (l : Bool) (form : Form) (b : Box Node Global) (ls : Links) (n part : Core) → form ≡ Chain b ls → Alike part (core_of (shown_node b.value)) → Alike n (chained_core (shown_links ls) part) → Alike n (form_core k l (shown_form form))
chain_made k l form b ls n part is q r =
    as_shown k l form (chain (shown_node b.value) (shown_links ls)) n (ap shown_form is ∙ shown-Chain b ls)
    (alike_trans n (chained_core (shown_links ls) part) (chained_core (shown_links ls) (core_of (shown_node b.value))) r (chained_alike (shown_links ls) part (core_of (shown_node b.value)) q))

pub if_made : (k : PlainKind) (l : Bool) (form : Form) (p : Place) (t y z : Box Node Global) (n c d e : Core) → form ≡ If p t y z → Alike c (core_of (shown_node t.value)) → Alike d (core_of (shown_node y.value)) → Alike e (core_of (shown_node z.value)) → n ≡ choice_core c d e → Alike n (form_core k l (shown_form form))
if_made k l form p t y z n c d e is f g h q =
    as_shown k l form (conditional p (shown_node t.value) (shown_node y.value) (shown_node z.value)) n (ap shown_form is ∙ shown-If p t y z)
    (choice_on n c (core_of (shown_node t.value)) d (core_of (shown_node y.value)) e (core_of (shown_node z.value)) q f g h)

pub tuple_made : (k : PlainKind) (l : Bool) (form : Form) (ns : NodeList) (n : Core) → form ≡ Tuple ns → Alike n (tuple_core (shown_nodes ns)) → Alike n (form_core k l (shown_form form))
tuple_made k l form ns n is h = as_shown k l form (tuple (shown_nodes ns)) n (ap shown_form is ∙ shown-Tuple ns) h

pub collection_made : (k : PlainKind) (l : Bool) (form : Form) (ns : NodeList) (n : Core) → form ≡ Collection ns → Alike n (collected_core (shown_nodes ns)) → Alike n (form_core k l (shown_form form))
collection_made k l form ns n is h = as_shown k l form (collection (shown_nodes ns)) n (ap shown_form is ∙ shown-Collection ns) h
