-- What lists of nodes show.
use Rattle.std.proofs.Common.{◌≡◌, ◌<◌, ◌||◌, List, [], ◌∷◌, ◌++◌, ◌-◌, length, get_or, take, drop, map, refl, sym, ap, ◌∙◌, Some, None, arith}
use Rattle.std.proofs.lemmas.List.{map-append, take_all, length-drop}
use Rattle.std.specs.List.{list_any}
use Rattle.rel_value.specs.declared.kind.Kind.{Kind}
use Rattle.rel_value.specs.declared.kind.Kinds.{Kinds}
use Rattle.rel_value.specs.declared.kind.Kind.TheFolds.{fold_out-Kinds}
use Rattle.rel_value.specs.Plain.{PlainKind, PlainKinds, no_kinds, more_kinds, tuples}
use Rattle.rel_types.specs.declared.given.Given.{Given}
use Rattle.rel_types.specs.declared.given.Given.TheVariants.{Tuple}
use Rattle.rel_types.specs.Rows.{kind_list, given_list, given_pair}
use Rattle.rel_types.proofs.Lists.{first_of_list, any_of_list, tuple_of_list, kinds_listed}
use Rattle.rel_value.specs.Views.{kinded, kind_step, kinds_step, shown_kind, shown_kinds, kind_items}
use Rattle.rel_types.specs.declared.node.Node.{Node, out-Node}
use Rattle.rel_types.specs.declared.node.Form.{Form}
use Rattle.rel_types.specs.declared.node.Link.{Link}
use Rattle.rel_types.specs.declared.node.Links.{Links, roll-Links, out-Links}
use Rattle.rel_types.specs.declared.node.NodeList.{NodeList, roll-NodeList, out-NodeList}
use Rattle.rel_types.specs.declared.node.Form.TheOpen.{Links-F, NodeList-F}
use Rattle.rel_types.specs.declared.node.Form.TheFolds.{fold-roll-Links, fold-roll-NodeList, fold_out-Links, fold_out-NodeList, fold_out-Node}
use Rattle.rel_types.specs.Plans.{PlainNode, PlainForm, kind_of, is_plural, LinkedNodes, no_links, more_links, Nodes, no_nodes, more_nodes, first_kind, any_plural, tuple_kind}
use Rattle.rel_types.specs.Views.{PlainLink, linked, listed, form_step, link_step, links_step, node_step, nodes_step, shown_node, shown_link, shown_links, shown_nodes}

linked-push : (l : LinkedNodes) (xs : List PlainLink) (x : PlainLink) → linked l (xs ++ (x ∷ [])) ≡ more_links (linked l xs) x.0 x.1 x.2
linked-push l [] x = refl
linked-push l (y ∷ ys) x = linked-push (more_links l y.0 y.1 y.2) ys x

listed-push : (l : Nodes) (xs : List PlainNode) (x : PlainNode) → listed l (xs ++ (x ∷ [])) ≡ more_nodes (listed l xs) x
listed-push l [] x = refl
listed-push l (y ∷ ys) x = listed-push (more_nodes l y) ys x

links-roll : (r : Links-F Form Link Links Node NodeList) → shown_links (roll-Links r) ≡ linked no_links (map shown_link r.items.items)
links-roll r = fold-roll-Links PlainForm PlainLink LinkedNodes PlainNode Nodes form_step link_step links_step node_step nodes_step r

links-out : (l : Links) → shown_links l ≡ linked no_links (map shown_link (out-Links l).items.items)
links-out l = fold_out-Links PlainForm PlainLink LinkedNodes PlainNode Nodes form_step link_step links_step node_step nodes_step l

nodes-roll : (r : NodeList-F Form Link Links Node NodeList) → shown_nodes (roll-NodeList r) ≡ listed no_nodes (map shown_node r.items.items)
nodes-roll r = fold-roll-NodeList PlainForm PlainLink LinkedNodes PlainNode Nodes form_step link_step links_step node_step nodes_step r

pub nodes-out : (l : NodeList) → shown_nodes l ≡ listed no_nodes (map shown_node (out-NodeList l).items.items)
nodes-out l = fold_out-NodeList PlainForm PlainLink LinkedNodes PlainNode Nodes form_step link_step links_step node_step nodes_step l

pub links-pushed : (l : Links) (r : Links-F Form Link Links Node NodeList) (x : Link) → r.items.items ≡ (out-Links l).items.items ++ (x ∷ []) → shown_links (roll-Links r) ≡ more_links (shown_links l) (shown_link x).0 (shown_link x).1 (shown_link x).2
links-pushed l r x e =
    links-roll r
    ∙ ap (λ xs. linked no_links (map shown_link xs)) e
    ∙ ap (linked no_links) (map-append shown_link (out-Links l).items.items (x ∷ []))
    ∙ linked-push no_links (map shown_link (out-Links l).items.items) (shown_link x)
    ∙ ap (λ k. more_links k (shown_link x).0 (shown_link x).1 (shown_link x).2) (sym (links-out l))

pub nodes-pushed : (l : NodeList) (r : NodeList-F Form Link Links Node NodeList) (x : Node) → r.items.items ≡ (out-NodeList l).items.items ++ (x ∷ []) → shown_nodes (roll-NodeList r) ≡ more_nodes (shown_nodes l) (shown_node x)
nodes-pushed l r x e =
    nodes-roll r
    ∙ ap (λ xs. listed no_nodes (map shown_node xs)) e
    ∙ ap (listed no_nodes) (map-append shown_node (out-NodeList l).items.items (x ∷ []))
    ∙ listed-push no_nodes (map shown_node (out-NodeList l).items.items) (shown_node x)
    ∙ ap (λ k. more_nodes k (shown_node x)) (sym (nodes-out l))

-- a node shows its kind and its number
pub kind-shown : (n : Node) → kind_of (shown_node n) ≡ shown_kind (out-Node n).kind
kind-shown n = ap kind_of (fold_out-Node PlainForm PlainLink LinkedNodes PlainNode Nodes form_step link_step links_step node_step nodes_step n)

pub plural-shown : (n : Node) → is_plural (shown_node n) ≡ (out-Node n).plural
plural-shown n = ap is_plural (fold_out-Node PlainForm PlainLink LinkedNodes PlainNode Nodes form_step link_step links_step node_step nodes_step n)

pub kinds-out : (l : Kinds) → shown_kinds l ≡ kinded no_kinds (map shown_kind (kind_items l))
kinds-out l = fold_out-Kinds PlainKind PlainKinds kind_step kinds_step l

first_of : {X : Type 0} (xs : List X) (x : X) → 0 < length xs → x ≡ get_or xs 0 x → xs ≡ x ∷ drop 1 xs
first_of [] x h e = absurd (omega arith)
first_of (y ∷ ys) x h e = ap (λ z. z ∷ ys) (sym e)

second_of : {X : Type 0} (xs : List X) (x y : X) → 1 < length xs → x ≡ get_or xs 0 x → y ≡ get_or xs 1 y → xs ≡ x ∷ y ∷ drop 2 xs
second_of [] x y h e g = absurd (omega arith)
second_of (a ∷ []) x y h e g = absurd (omega arith)
second_of (a ∷ b ∷ ys) x y h e g = ap (λ z. z ∷ b ∷ ys) (sym e) ∙ ap (λ z. x ∷ z ∷ ys) (sym g)

pub first_shown : (l : NodeList) (xs : List Node) (n : Node) (k : PlainKind) → xs ≡ (out-NodeList l).items.items → 0 < length xs → n ≡ get_or xs 0 n → k ≡ kind_of (shown_node n) → Some k ≡ first_kind (shown_nodes l)
first_shown l xs n k e h i j =
    ap Some j ∙ sym (first_of_list (shown_node n) (map shown_node (drop 1 xs)))
    ∙ ap (λ ys. first_kind (listed no_nodes (map shown_node ys))) (sym (first_of xs n h i) ∙ e)
    ∙ ap first_kind (sym (nodes-out l))

any_map : (xs : List Node) → list_any is_plural (map shown_node xs) ≡ list_any (λ n. is_plural (shown_node n)) xs
any_map [] = refl
any_map (x ∷ xs) = ap (λ b. is_plural (shown_node x) || b) (any_map xs)

pub any_shown : (l : NodeList) → any_plural (shown_nodes l) ≡ list_any (λ n. is_plural (shown_node n)) (out-NodeList l).items.items
any_shown l = ap any_plural (nodes-out l) ∙ any_of_list (map shown_node (out-NodeList l).items.items) ∙ any_map (out-NodeList l).items.items

kinds_map : (xs : List Node) → map kind_of (map shown_node xs) ≡ map (λ n. kind_of (shown_node n)) xs
kinds_map [] = refl
kinds_map (x ∷ xs) = ap (λ ks. kind_of (shown_node x) ∷ ks) (kinds_map xs)

pub tuple_shown : (l : NodeList) (xs : List Node) (n m : Node) (ks : PlainKinds) → xs ≡ (out-NodeList l).items.items → 1 < length xs → n ≡ get_or xs 0 n → m ≡ get_or xs 1 m → ks ≡ kinded (more_kinds (more_kinds no_kinds (kind_of (shown_node n))) (kind_of (shown_node m))) (map (λ x. kind_of (shown_node x)) (drop 2 xs)) → Some (tuples ks) ≡ tuple_kind (shown_nodes l)
tuple_shown l xs n m ks e h i j is =
    ap (λ k. Some (tuples k)) (is ∙ ap (kinded (more_kinds (more_kinds no_kinds (kind_of (shown_node n))) (kind_of (shown_node m)))) (sym (kinds_map (drop 2 xs))))
    ∙ sym (tuple_of_list (shown_node n) (shown_node m) (map shown_node (drop 2 xs)))
    ∙ ap (λ ys. tuple_kind (listed no_nodes (map shown_node ys))) (sym (second_of xs n m h i j) ∙ e)
    ∙ ap tuple_kind (sym (nodes-out l))

few : (xs : List Node) → (1 < length xs → ⊥) → None ≡ tuple_kind (listed no_nodes (map shown_node xs))
few [] h = refl
few (x ∷ []) h = refl
few (x ∷ y ∷ xs) h = absurd (h (omega arith))

pub no_tuple_shown : (l : NodeList) (xs : List Node) → xs ≡ (out-NodeList l).items.items → (1 < length xs → ⊥) → None ≡ tuple_kind (shown_nodes l)
no_tuple_shown l xs e h = few xs h ∙ ap (λ ys. tuple_kind (listed no_nodes (map shown_node ys))) e ∙ ap tuple_kind (sym (nodes-out l))

-- the kinds of a list, from the first
pub kinds_in_order : (l : Kinds) → map shown_kind (kind_items l) ≡ kind_list (shown_kinds l)
kinds_in_order l = sym (ap kind_list (kinds-out l) ∙ kinds_listed no_kinds (map shown_kind (kind_items l)))

given_two : (xs : List Kind) (a b : Kind) → length xs ≡ 2 → a ≡ get_or xs 0 a → b ≡ get_or xs 1 b → xs ≡ a ∷ b ∷ []
given_two [] a b h e g = absurd (omega arith)
given_two (x ∷ []) a b h e g = absurd (omega arith)
given_two (x ∷ y ∷ []) a b h e g = ap (λ z. z ∷ y ∷ []) (sym e) ∙ ap (λ z. a ∷ z ∷ []) (sym g)
given_two (x ∷ y ∷ z ∷ zs) a b h e g = absurd (omega arith)

pub two_given : (xs : List Kind) (a b : Kind) (g : Given) → length xs ≡ 2 → a ≡ get_or xs 0 a → b ≡ get_or xs 1 b → g ≡ given_pair (shown_kind a) (shown_kind b) → g ≡ given_list (map shown_kind xs)
two_given xs a b g h e i j = j ∙ ap (λ ys. given_list (map shown_kind ys)) (sym (given_two xs a b h e i))

pub others_given : (xs : List Kind) → (length xs ≡ 2 → ⊥) → Tuple ≡ given_list (map shown_kind xs)
others_given [] h = refl
others_given (x ∷ []) h = refl
others_given (x ∷ y ∷ []) h = absurd (h (omega arith))
others_given (x ∷ y ∷ z ∷ zs) h = refl

pub rest_all : (xs : List Node) → take (length xs - 2) (drop 2 xs) ≡ drop 2 xs
rest_all xs = let e : length (drop 2 xs) ≡ length xs - 2 = length-drop 2 xs in take_all (length xs - 2) (drop 2 xs) (omega (arith, e))
