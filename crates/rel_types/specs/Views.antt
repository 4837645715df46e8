-- What a plan of the code shows.
use Rattle.std.specs.Prelude.{List, [], ◌∷◌, Option, Some, None, option_map}
use Rattle.std.specs.Borrow.{Bor}
use Rattle.std.specs.declared.alloc.Global.{Global}
use Rattle.std.specs.declared.boxed.Box.{Box}
use Rattle.rel_lexer.specs.declared.place.Place.{Place}
use Rattle.rel_lexer.specs.declared.operator.BinarySign.{BinarySign}
use Rattle.rel_value.specs.declared.kind.Kind.{Kind}
use Rattle.rel_value.specs.Plain.{PlainKind}
use Rattle.rel_value.specs.Views.{shown_kind}
use Rattle.rel_types.specs.declared.node.Node.{Node}
use Rattle.rel_types.specs.declared.node.Form.{Form}
use Rattle.rel_types.specs.declared.node.Link.{Link}
use Rattle.rel_types.specs.declared.node.Links.{Links, out-Links}
use Rattle.rel_types.specs.declared.node.NodeList.{NodeList, out-NodeList}
use Rattle.rel_types.specs.declared.node.Form.TheOpen.{Node-F, Form-F, Number, Literal, It, Phrase, Body, Cast, Unary, Chain, If, Tuple, Collection, Link-F, Links-F, NodeList-F}
use Rattle.rel_types.specs.declared.node.Form.TheFolds.{fold-Node, fold-Form, fold-Link, fold-Links, fold-NodeList}
use Rattle.rel_types.specs.Plans.{PlainNode, node, PlainForm, numeral, literal, it, phrase, body, cast, unary, chain, conditional, tuple, collection, HeldNode, no_node, a_node, LinkedNodes, no_links, more_links, Nodes, no_nodes, more_nodes}

-- a link of a chain
abbrev pub PlainLink : Type 0
PlainLink = Place × BinarySign × PlainNode

abbrev pub linked : LinkedNodes → List PlainLink → LinkedNodes
linked l [] = l
linked l (x ∷ xs) = linked (more_links l x.0 x.1 x.2) xs

abbrev pub listed : Nodes → List PlainNode → Nodes
listed l [] = l
listed l (x ∷ xs) = listed (more_nodes l x) xs

abbrev pub held : Option (Box PlainNode Global) → HeldNode
held None = no_node
held (Some b) = a_node b.value

abbrev pub node_step : Node-F PlainForm PlainLink LinkedNodes PlainNode Nodes → PlainNode
node_step l = node (shown_kind l.kind) l.plural l.form

abbrev pub form_step : Form-F PlainForm PlainLink LinkedNodes PlainNode Nodes → PlainForm
form_step (Number p n) = numeral p n
form_step (Literal p t) = literal p t
form_step (It p) = it p
form_step (Phrase p h a f o) = phrase p h (held a) (held f) (held o)
form_step (Body p b f o) = body p b.value (held f) (held o)
form_step (Cast b cs) = cast b.value cs
form_step (Unary p s r) = unary p s r.value
form_step (Chain b r) = chain b.value r
form_step (If p t y n) = conditional p t.value y.value n.value
form_step (Tuple ns) = tuple ns
form_step (Collection ns) = collection ns

abbrev pub link_step : Link-F PlainForm PlainLink LinkedNodes PlainNode Nodes → PlainLink
link_step l = (l.place, l.sign, l.right)

abbrev pub links_step : Links-F PlainForm PlainLink LinkedNodes PlainNode Nodes → LinkedNodes
links_step l = linked no_links l.items.items

abbrev pub nodes_step : NodeList-F PlainForm PlainLink LinkedNodes PlainNode Nodes → Nodes
nodes_step l = listed no_nodes l.items.items

abbrev pub shown_node : Node → PlainNode
shown_node = fold-Node PlainForm PlainLink LinkedNodes PlainNode Nodes form_step link_step links_step node_step nodes_step

abbrev pub shown_form : Form → PlainForm
shown_form = fold-Form PlainForm PlainLink LinkedNodes PlainNode Nodes form_step link_step links_step node_step nodes_step

abbrev pub shown_link : Link → PlainLink
shown_link = fold-Link PlainForm PlainLink LinkedNodes PlainNode Nodes form_step link_step links_step node_step nodes_step

abbrev pub shown_links : Links → LinkedNodes
shown_links = fold-Links PlainForm PlainLink LinkedNodes PlainNode Nodes form_step link_step links_step node_step nodes_step

abbrev pub shown_nodes : NodeList → Nodes
shown_nodes = fold-NodeList PlainForm PlainLink LinkedNodes PlainNode Nodes form_step link_step links_step node_step nodes_step

-- the nodes of a list, and the links of one
abbrev pub node_items : NodeList → List Node
node_items l = (out-NodeList l).items.items

abbrev pub link_items : Links → List Link
link_items l = (out-Links l).items.items

-- the argument, filter or object, if there is one
abbrev pub shown_held : Option (Box Node Global) → HeldNode
shown_held None = no_node
shown_held (Some b) = a_node (shown_node b.value)

-- a kind that is lent, if there is one
abbrev pub shown_lent : Option (Bor Kind) → Option PlainKind
shown_lent k = option_map (λ r. shown_kind r.now) k
