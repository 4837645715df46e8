-- Lists of parts, gone through from their beginning.
use Rattle.std.proofs.Common.{◌≡◌, ℕ, ◌+◌, ◌-◌, ◌<◌, ◌≤◌, List, [], ◌∷◌, ◌++◌, length, get_or, take, map, refl, sym, ap, ◌∙◌, arith}
use Rattle.std.proofs.lemmas.List.{map-append, take_more, take_all}
use Rattle.rel_lexer.specs.declared.place.Place.{Place}
use Rattle.rel_lexer.specs.declared.operator.BinarySign.{BinarySign}
use Rattle.rel_lexer.specs.declared.operator.BinarySign.TheVariants as sign
use Rattle.rel_types.specs.declared.cast_steps.CastStep.{CastStep}
use Rattle.rel_types.specs.declared.node.Form.TheFolds.{fold_out-Link, fold_out-Links, fold_out-NodeList}
use Rattle.rel_types.specs.declared.node.Link.{Link, out-Link}
use Rattle.rel_types.specs.declared.node.Links.{Links, out-Links}
use Rattle.rel_types.specs.declared.node.Node.{Node}
use Rattle.rel_types.specs.declared.node.NodeList.{NodeList, out-NodeList}
use Rattle.rel_types.specs.Plans.{PlainNode, PlainForm, LinkedNodes, no_links, more_links, Nodes, no_nodes, more_nodes}
use Rattle.rel_types.specs.Views.{PlainLink, linked, listed, form_step, link_step, links_step, node_step, nodes_step, shown_node, shown_link, shown_links, shown_nodes}
use Rattle.rel_trace.specs.declared.logic.Logic.TheVariants.{And, Or}
use Rattle.rel_trace.specs.Ones.{sign_kind}
use Rattle.rel_trace.specs.Twos.{then_kind, bar_kind, logic_kind, left_kind}
use Rattle.rel_nodes.specs.Core.{Core, left_core, two_core, Alike, core_of, cast_arrow, casted_core, sign_arrow, infix_core, chained_core, collected_core}
use Rattle.rel_nodes.proofs.Alikes.{alike_same, alike_one, alike_trans, alike_two}

pub nodes-out : (l : NodeList) → shown_nodes l ≡ listed no_nodes (map shown_node (out-NodeList l).items.items)
nodes-out l = fold_out-NodeList PlainForm PlainLink LinkedNodes PlainNode Nodes form_step link_step links_step node_step nodes_step l

pub links-out : (l : Links) → shown_links l ≡ linked no_links (map shown_link (out-Links l).items.items)
links-out l = fold_out-Links PlainForm PlainLink LinkedNodes PlainNode Nodes form_step link_step links_step node_step nodes_step l

pub link-shown : (x : Link) → shown_link x ≡ ((out-Link x).place, (out-Link x).sign, shown_node (out-Link x).right)
link-shown x = fold_out-Link PlainForm PlainLink LinkedNodes PlainNode Nodes form_step link_step links_step node_step nodes_step x

pub linked-push : (l : LinkedNodes) (xs : List PlainLink) (x : PlainLink) → linked l (xs ++ (x ∷ [])) ≡ more_links (linked l xs) x.0 x.1 x.2
linked-push l [] x = refl
linked-push l (y ∷ ys) x = linked-push (more_links l y.0 y.1 y.2) ys x

pub listed-push : (l : Nodes) (xs : List PlainNode) (x : PlainNode) → listed l (xs ++ (x ∷ [])) ≡ more_nodes (listed l xs) x
listed-push l [] x = refl
listed-push l (y ∷ ys) x = listed-push (more_nodes l y) ys x

casted-push : (xs : List CastStep) (x : CastStep) (c : Core) → casted_core (xs ++ (x ∷ [])) c ≡ two_core left_kind (casted_core xs c) (cast_arrow x)
casted-push [] x c = refl
casted-push (y ∷ ys) x c = casted-push ys x (two_core left_kind c (cast_arrow y))

-- one element more
one_more : {X : Type 0} (xs : List X) (i : ℕ) (x : X) → i < length xs → x ≡ get_or xs i x → take (i + 1) xs ≡ take i xs ++ (x ∷ [])
one_more xs i x h e = take_more xs i x h ∙ ap (λ y. take i xs ++ (y ∷ [])) (sym e)

-- the nodes before this number, behind others
abbrev pub nodes_to : Nodes → List Node → ℕ → Nodes
nodes_to l xs i = listed l (map shown_node (take i xs))

abbrev pub links_to : List Link → ℕ → LinkedNodes
links_to xs i = linked no_links (map shown_link (take i xs))

nodes_more : (l : Nodes) (xs : List Node) (i : ℕ) (x : Node) → i < length xs → x ≡ get_or xs i x → nodes_to l xs (i + 1) ≡ more_nodes (nodes_to l xs i) (shown_node x)
nodes_more l xs i x h e =
    ap (λ ys. listed l (map shown_node ys)) (one_more xs i x h e)
    ∙ ap (listed l) (map-append shown_node (take i xs) (x ∷ []))
    ∙ listed-push l (map shown_node (take i xs)) (shown_node x)

links_more : (xs : List Link) (i : ℕ) (x : Link) → i < length xs → x ≡ get_or xs i x → links_to xs (i + 1) ≡ more_links (links_to xs i) (out-Link x).place (out-Link x).sign (shown_node (out-Link x).right)
links_more xs i x h e =
    ap (λ ys. linked no_links (map shown_link ys)) (one_more xs i x h e)
    ∙ ap (linked no_links) (map-append shown_link (take i xs) (x ∷ []))
    ∙ linked-push no_links (map shown_link (take i xs)) (shown_link x)
    ∙ ap (λ (y : PlainLink). more_links (links_to xs i) y.0 y.1 y.2) (link-shown x)

-- all of them
all_of : {X : Type 0} (xs : List X) (i : ℕ) → (i < length xs → ⊥) → take i xs ≡ xs
all_of xs i h = let le : length xs ≤ i = omega arith in take_all i xs le

nodes_all : (l : Nodes) (xs : List Node) (i : ℕ) → (i < length xs → ⊥) → nodes_to l xs i ≡ listed l (map shown_node xs)
nodes_all l xs i h = ap (λ ys. listed l (map shown_node ys)) (all_of xs i h)

same : (c : Core) → Alike c c
same c w s a = refl

-- casts
pub casted_more : (part c d e : Core) (xs : List CastStep) (i : ℕ) (x : CastStep) → take (i + 1) xs ≡ take i xs ++ (x ∷ []) → Alike c (casted_core (take i xs) part) → d ≡ cast_arrow x → Alike e (two_core left_kind c d) → Alike e (casted_core (take (i + 1) xs) part)
casted_more part c d e xs i x more inv q k =
    alike_trans e (two_core left_kind c d) (casted_core (take (i + 1) xs) part) k
    (alike_trans (two_core left_kind c d) (two_core left_kind (casted_core (take i xs) part) (cast_arrow x)) (casted_core (take (i + 1) xs) part)
    (alike_two left_kind c (casted_core (take i xs) part) d (cast_arrow x) inv (alike_same d (cast_arrow x) q))
    (alike_same (two_core left_kind (casted_core (take i xs) part) (cast_arrow x)) (casted_core (take (i + 1) xs) part)
    (sym (ap (λ ys. casted_core ys part) more ∙ casted-push (take i xs) x part))))

pub casted_all : (part c : Core) (xs ys : List CastStep) (i : ℕ) → xs ≡ ys → (i < length xs → ⊥) → Alike c (casted_core (take i xs) part) → Alike c (casted_core ys part)
casted_all part c xs ys i e h inv =
    alike_trans c (casted_core (take i xs) part) (casted_core ys part) inv
    (alike_same (casted_core (take i xs) part) (casted_core ys part) (ap (λ zs. casted_core zs part) (all_of xs i h ∙ e)))

-- collections
pub collected_more : (c d e : Core) (xs : List Node) (i : ℕ) (x : Node) → i < length xs → x ≡ get_or xs i x → Alike c (collected_core (nodes_to no_nodes xs i)) → Alike d (core_of (shown_node x)) → Alike e (two_core then_kind c d) → Alike e (collected_core (nodes_to no_nodes xs (i + 1)))
collected_more c d e xs i x h g inv q k =
    let before = collected_core (nodes_to no_nodes xs i) in
    let after = collected_core (nodes_to no_nodes xs (i + 1)) in
    alike_trans e (two_core then_kind c d) after k
    (alike_trans (two_core then_kind c d) (two_core then_kind before (core_of (shown_node x))) after
    (alike_two then_kind c before d (core_of (shown_node x)) inv q)
    (alike_same (two_core then_kind before (core_of (shown_node x))) after (sym (ap collected_core (nodes_more no_nodes xs i x h g)))))

pub collected_all : (c : Core) (l : NodeList) (xs : List Node) (i : ℕ) → xs ≡ (out-NodeList l).items.items → (i < length xs → ⊥) → Alike c (collected_core (nodes_to no_nodes xs i)) → Alike c (collected_core (shown_nodes l))
collected_all c l xs i e h inv =
    alike_trans c (collected_core (nodes_to no_nodes xs i)) (collected_core (shown_nodes l)) inv
    (alike_same (collected_core (nodes_to no_nodes xs i)) (collected_core (shown_nodes l))
    (ap collected_core (nodes_all no_nodes xs i h ∙ ap (λ ys. listed no_nodes (map shown_node ys)) e ∙ sym (nodes-out l))))

-- chains
sign_alike : (g : BinarySign) (p : Place) (c d : Core) → Alike c d → Alike (sign_arrow g p c) (sign_arrow g p d)
sign_alike sign.And p c d h = alike_two (logic_kind And) left_core left_core c d (same left_core) h
sign_alike sign.Or p c d h = alike_two (logic_kind Or) left_core left_core c d (same left_core) h
sign_alike g p c d h = alike_one (sign_kind g p) c d h

pub infix_alike : (g : BinarySign) (p : Place) (c c' d d' : Core) → Alike c c' → Alike d d' → Alike (infix_core g p c d) (infix_core g p c' d')
infix_alike sign.Bar p c c' d d' h k = alike_two bar_kind c c' d d' h k
infix_alike g p c c' d d' h k = alike_two left_kind c c' (sign_arrow g p d) (sign_arrow g p d') h (sign_alike g p d d' k)

pub chained_more : (first c d e : Core) (xs : List Link) (i : ℕ) (x : Link) → i < length xs → x ≡ get_or xs i x → Alike c (chained_core (links_to xs i) first) → Alike d (core_of (shown_node (out-Link x).right)) → Alike e (infix_core (out-Link x).sign (out-Link x).place c d) → Alike e (chained_core (links_to xs (i + 1)) first)
chained_more first c d e xs i x h g inv q k =
    let sign_of = (out-Link x).sign in
    let place = (out-Link x).place in
    let right = core_of (shown_node (out-Link x).right) in
    let before = chained_core (links_to xs i) first in
    let after = chained_core (links_to xs (i + 1)) first in
    alike_trans e (infix_core sign_of place c d) after k
    (alike_trans (infix_core sign_of place c d) (infix_core sign_of place before right) after
    (infix_alike sign_of place c before d right inv q)
    (alike_same (infix_core sign_of place before right) after (sym (ap (λ l. chained_core l first) (links_more xs i x h g)))))

pub chained_all : (first c : Core) (l : Links) (xs : List Link) (i : ℕ) → xs ≡ (out-Links l).items.items → (i < length xs → ⊥) → Alike c (chained_core (links_to xs i) first) → Alike c (chained_core (shown_links l) first)
chained_all first c l xs i e h inv =
    alike_trans c (chained_core (links_to xs i) first) (chained_core (shown_links l) first) inv
    (alike_same (chained_core (links_to xs i) first) (chained_core (shown_links l) first)
    (ap (λ x. chained_core x first) (ap (λ ys. linked no_links (map shown_link ys)) (all_of xs i h ∙ e) ∙ sym (links-out l))))
