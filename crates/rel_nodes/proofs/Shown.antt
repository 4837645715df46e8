-- What a plan of the code shows, form by form.
use Rattle.std.proofs.Common.{◌≡◌, ℤ, List, sym, ap, ◌∙◌, ℕ, Option, Some, None}
use Rattle.std.specs.declared.alloc.Global.{Global}
use Rattle.std.specs.declared.boxed.Box.{Box}
use Rattle.rel_lexer.specs.declared.place.Place.{Place}
use Rattle.rel_lexer.specs.declared.operator.UnarySign.{UnarySign}
use Rattle.rel_value.specs.declared.value.Value.TheVariants.{Integer, rolls-Integer}
use Rattle.rel_value.specs.declared.value.Value.TheOpen as value
use Rattle.rel_value.specs.declared.value.Value.TheFolds.{fold-roll-Value}
use Rattle.rel_value.specs.Plain.{Plain, Parts, integer}
use Rattle.rel_value.specs.Views.{shown, shown_kind, value_step, values_step}
use Rattle.rel_types.specs.declared.cast_steps.CastStep.{CastStep}
use Rattle.rel_types.specs.declared.head.Head.{Head}
use Rattle.rel_types.specs.declared.node.Form.{roll-Form}
use Rattle.rel_types.specs.declared.node.Form.TheVariants.{Number, Literal, It, Phrase, Body, Cast, Unary, Chain, If, Tuple, Collection, rolls-Number, rolls-Literal, rolls-It, rolls-Phrase, rolls-Body, rolls-Cast, rolls-Unary, rolls-Chain, rolls-If, rolls-Tuple, rolls-Collection}
use Rattle.rel_types.specs.declared.node.Form.TheOpen as layer
use Rattle.rel_types.specs.declared.node.Form.TheFolds.{fold-roll-Form, fold_out-Node}
use Rattle.rel_types.specs.declared.node.Links.{Links}
use Rattle.rel_types.specs.declared.node.Node.{Node, out-Node}
use Rattle.rel_types.specs.declared.node.NodeList.{NodeList}
use Rattle.rel_types.specs.Plans.{PlainNode, node, PlainForm, numeral, literal, it, phrase, body, cast, unary, chain, conditional, tuple, collection, LinkedNodes, Nodes}
use Rattle.rel_types.specs.Views.{PlainLink, form_step, link_step, links_step, node_step, nodes_step, shown_form, shown_held, shown_links, shown_node, shown_nodes}

pub node-shown : (n : Node) → shown_node n ≡ node (shown_kind (out-Node n).kind) (out-Node n).plural (shown_form (out-Node n).form)
node-shown n = fold_out-Node PlainForm PlainLink LinkedNodes PlainNode Nodes form_step link_step links_step node_step nodes_step n

pub shown-Number : (p : Place) (n : ℤ) → shown_form (Number p n) ≡ numeral p n
shown-Number p n = ap shown_form (sym (rolls-Number p n)) ∙ fold-roll-Form PlainForm PlainLink LinkedNodes PlainNode Nodes form_step link_step links_step node_step nodes_step (layer.Number p n)

pub shown-Literal : (p : Place) (t : List ℕ) → shown_form (Literal p t) ≡ literal p t
shown-Literal p t = ap shown_form (sym (rolls-Literal p t)) ∙ fold-roll-Form PlainForm PlainLink LinkedNodes PlainNode Nodes form_step link_step links_step node_step nodes_step (layer.Literal p t)

pub shown-It : (p : Place) → shown_form (It p) ≡ it p
shown-It p = ap shown_form (sym (rolls-It p)) ∙ fold-roll-Form PlainForm PlainLink LinkedNodes PlainNode Nodes form_step link_step links_step node_step nodes_step (layer.It p)

phrase_rolls : (p : Place) (h : Head) (a f o : Option (Box Node Global)) → shown_form (roll-Form (layer.Phrase p h a f o)) ≡ phrase p h (shown_held a) (shown_held f) (shown_held o)
phrase_rolls p h None None None = fold-roll-Form PlainForm PlainLink LinkedNodes PlainNode Nodes form_step link_step links_step node_step nodes_step (layer.Phrase p h None None None)
phrase_rolls p h None None (Some o) = fold-roll-Form PlainForm PlainLink LinkedNodes PlainNode Nodes form_step link_step links_step node_step nodes_step (layer.Phrase p h None None (Some o))
phrase_rolls p h None (Some f) None = fold-roll-Form PlainForm PlainLink LinkedNodes PlainNode Nodes form_step link_step links_step node_step nodes_step (layer.Phrase p h None (Some f) None)
phrase_rolls p h None (Some f) (Some o) = fold-roll-Form PlainForm PlainLink LinkedNodes PlainNode Nodes form_step link_step links_step node_step nodes_step (layer.Phrase p h None (Some f) (Some o))
phrase_rolls p h (Some a) None None = fold-roll-Form PlainForm PlainLink LinkedNodes PlainNode Nodes form_step link_step links_step node_step nodes_step (layer.Phrase p h (Some a) None None)
phrase_rolls p h (Some a) None (Some o) = fold-roll-Form PlainForm PlainLink LinkedNodes PlainNode Nodes form_step link_step links_step node_step nodes_step (layer.Phrase p h (Some a) None (Some o))
phrase_rolls p h (Some a) (Some f) None = fold-roll-Form PlainForm PlainLink LinkedNodes PlainNode Nodes form_step link_step links_step node_step nodes_step (layer.Phrase p h (Some a) (Some f) None)
phrase_rolls p h (Some a) (Some f) (Some o) = fold-roll-Form PlainForm PlainLink LinkedNodes PlainNode Nodes form_step link_step links_step node_step nodes_step (layer.Phrase p h (Some a) (Some f) (Some o))

pub shown-Phrase : (p : Place) (h : Head) (a f o : Option (Box Node Global)) → shown_form (Phrase p h a f o) ≡ phrase p h (shown_held a) (shown_held f) (shown_held o)
shown-Phrase p h a f o = ap shown_form (sym (rolls-Phrase p h a f o)) ∙ phrase_rolls p h a f o

body_rolls : (p : Place) (b : Box Node Global) (f o : Option (Box Node Global)) → shown_form (roll-Form (layer.Body p b f o)) ≡ body p (shown_node b.value) (shown_held f) (shown_held o)
body_rolls p b None None = fold-roll-Form PlainForm PlainLink LinkedNodes PlainNode Nodes form_step link_step links_step node_step nodes_step (layer.Body p b None None)
body_rolls p b None (Some o) = fold-roll-Form PlainForm PlainLink LinkedNodes PlainNode Nodes form_step link_step links_step node_step nodes_step (layer.Body p b None (Some o))
body_rolls p b (Some f) None = fold-roll-Form PlainForm PlainLink LinkedNodes PlainNode Nodes form_step link_step links_step node_step nodes_step (layer.Body p b (Some f) None)
body_rolls p b (Some f) (Some o) = fold-roll-Form PlainForm PlainLink LinkedNodes PlainNode Nodes form_step link_step links_step node_step nodes_step (layer.Body p b (Some f) (Some o))

pub shown-Body : (p : Place) (b : Box Node Global) (f o : Option (Box Node Global)) → shown_form (Body p b f o) ≡ body p (shown_node b.value) (shown_held f) (shown_held o)
shown-Body p b f o = ap shown_form (sym (rolls-Body p b f o)) ∙ body_rolls p b f o

pub shown-Cast : (b : Box Node Global) (cs : List CastStep) → shown_form (Cast b cs) ≡ cast (shown_node b.value) cs
shown-Cast b cs = ap shown_form (sym (rolls-Cast b cs)) ∙ fold-roll-Form PlainForm PlainLink LinkedNodes PlainNode Nodes form_step link_step links_step node_step nodes_step (layer.Cast b cs)

pub shown-Unary : (p : Place) (s : UnarySign) (r : Box Node Global) → shown_form (Unary p s r) ≡ unary p s (shown_node r.value)
shown-Unary p s r = ap shown_form (sym (rolls-Unary p s r)) ∙ fold-roll-Form PlainForm PlainLink LinkedNodes PlainNode Nodes form_step link_step links_step node_step nodes_step (layer.Unary p s r)

pub shown-Chain : (b : Box Node Global) (r : Links) → shown_form (Chain b r) ≡ chain (shown_node b.value) (shown_links r)
shown-Chain b r = ap shown_form (sym (rolls-Chain b r)) ∙ fold-roll-Form PlainForm PlainLink LinkedNodes PlainNode Nodes form_step link_step links_step node_step nodes_step (layer.Chain b r)

pub shown-If : (p : Place) (t y n : Box Node Global) → shown_form (If p t y n) ≡ conditional p (shown_node t.value) (shown_node y.value) (shown_node n.value)
shown-If p t y n = ap shown_form (sym (rolls-If p t y n)) ∙ fold-roll-Form PlainForm PlainLink LinkedNodes PlainNode Nodes form_step link_step links_step node_step nodes_step (layer.If p t y n)

pub shown-Tuple : (ns : NodeList) → shown_form (Tuple ns) ≡ tuple (shown_nodes ns)
shown-Tuple ns = ap shown_form (sym (rolls-Tuple ns)) ∙ fold-roll-Form PlainForm PlainLink LinkedNodes PlainNode Nodes form_step link_step links_step node_step nodes_step (layer.Tuple ns)

pub shown-Collection : (ns : NodeList) → shown_form (Collection ns) ≡ collection (shown_nodes ns)
shown-Collection ns = ap shown_form (sym (rolls-Collection ns)) ∙ fold-roll-Form PlainForm PlainLink LinkedNodes PlainNode Nodes form_step link_step links_step node_step nodes_step (layer.Collection ns)

pub shown-integer : (z : ℤ) → shown (Integer z) ≡ integer z
shown-integer z = ap shown (sym (rolls-Integer z)) ∙ fold-roll-Value Plain Parts value_step values_step (value.Integer z)
