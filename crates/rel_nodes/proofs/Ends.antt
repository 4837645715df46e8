-- Where lists of nodes and of links begin and end.
use Rattle.std.proofs.Common.{◌≡◌, ℕ, ◌+◌, ◌-◌, ◌<◌, ◌≤◌, List, [], ◌∷◌, ◌++◌, length, get_or, take, map, refl, sym, ap, ◌∙◌, arith}
use Rattle.std.proofs.lemmas.List.{map-append, take_more, take_all}
use Rattle.rel_types.specs.declared.node.Link.{Link, out-Link}
use Rattle.rel_types.specs.declared.node.Links.{Links, out-Links}
use Rattle.rel_types.specs.declared.node.Node.{Node}
use Rattle.rel_types.specs.declared.node.NodeList.{NodeList, out-NodeList}
use Rattle.rel_types.specs.Plans.{PlainNode, no_links, Nodes, no_nodes, more_nodes}
use Rattle.rel_types.specs.Views.{PlainLink, linked, listed, shown_node, shown_link, shown_links, shown_nodes}
use Rattle.rel_nodes.specs.Spans.{begin_of, end_of, nodes_begin, nodes_end, links_end}
use Rattle.rel_nodes.proofs.Lists.{nodes-out, links-out, link-shown, linked-push, listed-push}

begin-listed : (l : Nodes) (x : PlainNode) (ys : List PlainNode) (at : ℕ) → nodes_begin (listed (more_nodes l x) ys) at ≡ nodes_begin l (begin_of x)
begin-listed l x [] at = refl
begin-listed l x (y ∷ ys) at = begin-listed (more_nodes l x) y ys at

begin-first : (xs : List Node) (n : Node) (at : ℕ) → 0 < length xs → n ≡ get_or xs 0 n → nodes_begin (listed no_nodes (map shown_node xs)) at ≡ begin_of (shown_node n)
begin-first [] n at h e = absurd (omega arith)
begin-first (x ∷ xs) n at h e = begin-listed no_nodes (shown_node x) (map shown_node xs) at ∙ ap (λ k. begin_of (shown_node k)) (sym e)

-- the first node of a list begins where the list begins
pub begins : (l : NodeList) (xs : List Node) (n : Node) (at : ℕ) → xs ≡ (out-NodeList l).items.items → 0 < length xs → n ≡ get_or xs 0 n → at ≡ begin_of (shown_node n) → at ≡ nodes_begin (shown_nodes l) 0
begins l xs n at e h i k = k ∙ sym (begin-first xs n 0 h i) ∙ ap (λ ys. nodes_begin (listed no_nodes (map shown_node ys)) 0) e ∙ ap (λ p. nodes_begin p 0) (sym (nodes-out l))

-- the last apart
last_split : {X : Type 0} (xs : List X) (t : X) → 0 < length xs → t ≡ get_or xs (length xs - 1) t → xs ≡ take (length xs - 1) xs ++ (t ∷ [])
last_split {X} xs t h e =
    let below : length xs - 1 < length xs = omega arith in
    let same : length xs - 1 + 1 ≡ length xs = omega arith in
    let whole : length xs ≤ length xs - 1 + 1 = omega arith in
    sym (take_all (length xs - 1 + 1) xs whole) ∙ take_more xs (length xs - 1) t below ∙ ap (λ k. take (length xs - 1) xs ++ (k ∷ [])) (sym e)

pub nodes_ends : (l : NodeList) (xs : List Node) (n : Node) (at : ℕ) → xs ≡ (out-NodeList l).items.items → 0 < length xs → n ≡ get_or xs (length xs - 1) n → at ≡ end_of (shown_node n) → at ≡ nodes_end (shown_nodes l)
nodes_ends l xs n at e h i k =
    let front = take (length xs - 1) xs in
    k ∙ ap nodes_end (sym (listed-push no_nodes (map shown_node front) (shown_node n)))
    ∙ ap (λ ys. nodes_end (listed no_nodes ys)) (sym (map-append shown_node front (n ∷ [])))
    ∙ ap (λ ys. nodes_end (listed no_nodes (map shown_node ys))) (sym (last_split xs n h i) ∙ e)
    ∙ ap nodes_end (sym (nodes-out l))

-- the right operand of a link
pub link-right : (x : Link) → (shown_link x).2 ≡ shown_node (out-Link x).right
link-right x = ap (λ (l : PlainLink). l.2) (link-shown x)

pub links_ends : (l : Links) (xs : List Link) (x : Link) (at n : ℕ) → xs ≡ (out-Links l).items.items → 0 < length xs → x ≡ get_or xs (length xs - 1) x → n ≡ end_of (shown_link x).2 → n ≡ links_end at (shown_links l)
links_ends l xs x at n e h i k =
    let front = take (length xs - 1) xs in
    k ∙ ap (links_end at) (sym (linked-push no_links (map shown_link front) (shown_link x)))
    ∙ ap (λ ys. links_end at (linked no_links ys)) (sym (map-append shown_link front (x ∷ [])))
    ∙ ap (λ ys. links_end at (linked no_links (map shown_link ys))) (sym (last_split xs x h i) ∙ e)
    ∙ ap (links_end at) (sym (links-out l))
