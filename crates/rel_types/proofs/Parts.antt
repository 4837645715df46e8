-- The trees of a list, and the links of one, checked one after another.
use Rattle.std.proofs.Common.{◌≡◌, ◌∙◌, sym, ap, map}
use Rattle.rel_grammar.specs.declared.tree.TreeList.{TreeList}
use Rattle.rel_grammar.specs.declared.tree.LinkList.{LinkList}
use Rattle.rel_grammar.specs.declared.tree.Tree.TheFolds.{fold-roll-Tree, fold_out-TreeList, fold_out-LinkList, fold_out-Link2}
use Rattle.rel_grammar.specs.declared.tree.Link2.{Link2, out-Link2}
use Rattle.rel_grammar.specs.Trees.{Plain, Linked, Parts, no_links, no_parts, conditional, phrase}
use Rattle.rel_grammar.specs.Views.{PlainLink, tree_step, link_step, links_step, trees_step, shown, shown_link, shown_links, shown_parts, tree_items, link_items, linked, parted}
use Rattle.std.proofs.Common.{Option, Ok, List, ℕ}
use Rattle.std.specs.declared.alloc.Global.{Global}
use Rattle.std.specs.declared.boxed.Box.{Box}
use Rattle.rel_grammar.specs.declared.tree.Tree.{Tree}
use Rattle.rel_grammar.specs.declared.tree.Tree.TheVariants.{If, Phrase, rolls-If}
use Rattle.rel_grammar.specs.declared.tree.Tree.TheOpen as layer
use Rattle.rel_grammar.specs.Holding.{shown_held}
use Rattle.rel_grammar.proofs.Shown.{shown-Phrase}
use Rattle.rel_types.specs.Heads.{Headed, head_of}
use Rattle.rel_lexer.specs.declared.place.Place.{Place}
use Rattle.rel_grammar.specs.Spans.{span_of_tree}
use Rattle.rel_types.specs.declared.error.TypeError.{TypeError}
use Rattle.rel_types.specs.Outcomes.{after, defined, Fails}
use Rattle.rel_types.proofs.Steps.{gives, fails_first, fails_next, fails_at}
use Rattle.rel_value.specs.Plain.{PlainKind}
use Rattle.rel_types.specs.Plans as plans
use Rattle.rel_types.specs.Typing.{typed, typed_parts, typed_alike, typed_links, typed_argument, typed_object, typed_filter, truth, same_branch, choice_node, named_node, singular, one_more, one_more_like, one_more_link, Chained}
use Rattle.rel_types.proofs.Lists as lists
use Rattle.rel_types.proofs.Lists.{steps, part_step, like_step, parts_steps, alike_steps, links_steps}

parts-out : (l : TreeList) → shown_parts l ≡ parted no_parts (map shown (tree_items l))
parts-out l = fold_out-TreeList Plain PlainLink Linked Parts tree_step link_step links_step trees_step l

links-out : (l : LinkList) → shown_links l ≡ linked no_links (map shown_link (link_items l))
links-out l = fold_out-LinkList Plain PlainLink Linked Parts tree_step link_step links_step trees_step l

pub all_parts : (i : Option PlainKind) (l : TreeList) → steps (part_step i) plans.no_nodes (map shown (tree_items l)) ≡ typed_parts i (shown_parts l)
all_parts i l = sym (ap (typed_parts i) (parts-out l) ∙ parts_steps i (map shown (tree_items l)))

pub all_alike : (i : Option PlainKind) (l : TreeList) → steps (like_step i) plans.no_nodes (map shown (tree_items l)) ≡ typed_alike i (shown_parts l)
all_alike i l = sym (ap (typed_alike i) (parts-out l) ∙ alike_steps i (map shown (tree_items l)))

pub all_links : (i : Option PlainKind) (first : PlainKind) (l : LinkList) → steps (lists.link_step i) (record { kind = first; links = plans.no_links }) (map shown_link (link_items l)) ≡ typed_links i first (shown_links l)
all_links i first l = sym (ap (typed_links i first) (links-out l) ∙ links_steps i first (map shown_link (link_items l)))

-- one element more, checked or with its fault
link-shown : (x : Link2) → shown_link x ≡ ((out-Link2 x).place, (out-Link2 x).sign, shown (out-Link2 x).right)
link-shown x = fold_out-Link2 Plain PlainLink Linked Parts tree_step link_step links_step trees_step x

pub link_goes : (i : Option PlainKind) (s next : Chained) (x : Link2) (at : Place) (right : plans.PlainNode) → at ≡ span_of_tree (shown (out-Link2 x).right) → singular (shown (out-Link2 x).right) (typed i (shown (out-Link2 x).right)) ≡ Ok right → one_more_link s (out-Link2 x).place (out-Link2 x).sign at right ≡ Ok next → lists.link_step i s (shown_link x) ≡ Ok next
link_goes i s next x at right h e k =
    ap (lists.link_step i s) (link-shown x)
    ∙ gives (singular (shown (out-Link2 x).right) (typed i (shown (out-Link2 x).right))) (one_more_link s (out-Link2 x).place (out-Link2 x).sign (span_of_tree (shown (out-Link2 x).right))) right (Ok next) e (ap (λ q. one_more_link s (out-Link2 x).place (out-Link2 x).sign q right) (sym h) ∙ k)

pub link_fails_first : (i : Option PlainKind) (s : Chained) (x : Link2) (e : TypeError) → Fails (singular (shown (out-Link2 x).right) (typed i (shown (out-Link2 x).right))) e → Fails (lists.link_step i s (shown_link x)) e
link_fails_first i s x e f =
    fails_at (lists.link_step i s (shown_link x)) (after (singular (shown (out-Link2 x).right) (typed i (shown (out-Link2 x).right))) (one_more_link s (out-Link2 x).place (out-Link2 x).sign (span_of_tree (shown (out-Link2 x).right)))) e (ap (lists.link_step i s) (link-shown x)) (fails_first (singular (shown (out-Link2 x).right) (typed i (shown (out-Link2 x).right))) (one_more_link s (out-Link2 x).place (out-Link2 x).sign (span_of_tree (shown (out-Link2 x).right))) e f)

pub link_fails_next : (i : Option PlainKind) (s : Chained) (x : Link2) (at : Place) (right : plans.PlainNode) (e : TypeError) → at ≡ span_of_tree (shown (out-Link2 x).right) → singular (shown (out-Link2 x).right) (typed i (shown (out-Link2 x).right)) ≡ Ok right → Fails (one_more_link s (out-Link2 x).place (out-Link2 x).sign at right) e → Fails (lists.link_step i s (shown_link x)) e
link_fails_next i s x at right e h k f =
    fails_at (lists.link_step i s (shown_link x)) (one_more_link s (out-Link2 x).place (out-Link2 x).sign at right) e (ap (lists.link_step i s) (link-shown x) ∙ gives (singular (shown (out-Link2 x).right) (typed i (shown (out-Link2 x).right))) (one_more_link s (out-Link2 x).place (out-Link2 x).sign (span_of_tree (shown (out-Link2 x).right))) right (one_more_link s (out-Link2 x).place (out-Link2 x).sign at right) k (ap (λ q. one_more_link s (out-Link2 x).place (out-Link2 x).sign q right) (sym h))) f

pub like_goes : (i : Option PlainKind) (s next : plans.Nodes) (t : Plain) (at : Place) (n : plans.PlainNode) → at ≡ span_of_tree t → typed i t ≡ Ok n → one_more_like s at n ≡ Ok next → like_step i s t ≡ Ok next
like_goes i s next t at n h e k = gives (typed i t) (one_more_like s (span_of_tree t)) n (Ok next) e (ap (λ q. one_more_like s q n) (sym h) ∙ k)

pub like_fails_next : (i : Option PlainKind) (s : plans.Nodes) (t : Plain) (at : Place) (n : plans.PlainNode) (e : TypeError) → at ≡ span_of_tree t → typed i t ≡ Ok n → Fails (one_more_like s at n) e → Fails (like_step i s t) e
like_fails_next i s t at n e h k f = fails_at (like_step i s t) (one_more_like s at n) e (gives (typed i t) (one_more_like s (span_of_tree t)) n (one_more_like s at n) k (ap (λ q. one_more_like s q n) (sym h))) f

pub part_goes : (i : Option PlainKind) (s next : plans.Nodes) (t : Plain) (n : plans.PlainNode) → typed i t ≡ Ok n → one_more s n ≡ Ok next → part_step i s t ≡ Ok next
part_goes i s next t n e h = gives (typed i t) (one_more s) n (Ok next) e h

shown-If : (p : Place) (t y n : Box Tree Global) → shown (If p t y n) ≡ conditional p (shown t.value) (shown y.value) (shown n.value)
shown-If p t y n = ap shown (sym (rolls-If p t y n)) ∙ fold-roll-Tree Plain PlainLink Linked Parts tree_step link_step links_step trees_step (layer.If p t y n)

-- the second branch of an `if` has a fault; `u`, `v` and `w` are what is in the boxes
pub branch_fails : (i : Option PlainKind) (tree : Tree) (p : Place) (t y n : Box Tree Global) (u v w : Tree) (test chosen : plans.PlainNode) (k : PlainKind) (e : TypeError) → k ≡ plans.kind_of chosen → tree ≡ If p t y n → u ≡ t.value → v ≡ y.value → w ≡ n.value → truth (shown u) (typed i (shown u)) ≡ Ok test → typed i (shown v) ≡ Ok chosen → Fails (same_branch k (shown w) (typed i (shown w))) e → Fails (typed i (shown tree)) e
branch_fails i tree p t y n u v w test chosen k e same is a b c h g f =
    fails_at (typed i (shown tree)) (typed i (conditional p (shown t.value) (shown y.value) (shown n.value))) e (ap (typed i) (ap shown is ∙ shown-If p t y n))
    (fails_next (truth (shown t.value) (typed i (shown t.value))) (λ test. after (typed i (shown y.value)) (λ chosen. after (same_branch (plans.kind_of chosen) (shown n.value) (typed i (shown n.value))) (λ other. Ok (choice_node p test chosen other)))) test e (ap (λ x. truth (shown x) (typed i (shown x))) (sym a) ∙ h)
    (fails_next (typed i (shown y.value)) (λ chosen. after (same_branch (plans.kind_of chosen) (shown n.value) (typed i (shown n.value))) (λ other. Ok (choice_node p test chosen other))) chosen e (ap (λ x. typed i (shown x)) (sym b) ∙ g)
    (fails_first (same_branch (plans.kind_of chosen) (shown n.value) (typed i (shown n.value))) (λ other. Ok (choice_node p test chosen other)) e
    (fails_at (same_branch (plans.kind_of chosen) (shown n.value) (typed i (shown n.value))) (same_branch k (shown w) (typed i (shown w))) e (ap (λ q. same_branch q (shown n.value) (typed i (shown n.value))) (sym same) ∙ ap (λ x. same_branch k (shown x) (typed i (shown x))) (sym c)) f))))

-- the filter of a name has a fault
pub filter_fails : (i : Option PlainKind) (tree : Tree) (p : Place) (w : List ℕ) (a f o : Option (Box Tree Global)) (argument object : plans.HeldNode) (head : Headed) (e : TypeError) → tree ≡ Phrase p w a f o → typed_argument i (shown_held a) ≡ Ok argument → typed_object i (shown_held o) ≡ Ok object → defined p w (head_of w argument object) ≡ Ok head → Fails (typed_filter head.kind (shown_held f)) e → Fails (typed i (shown tree)) e
filter_fails i tree p w a f o argument object head e is h k l g =
    fails_at (typed i (shown tree)) (typed i (phrase p w (shown_held a) (shown_held f) (shown_held o))) e (ap (typed i) (ap shown is ∙ shown-Phrase p w a f o))
    (fails_next (typed_argument i (shown_held a)) (λ argument. after (typed_object i (shown_held o)) (λ object. after (defined p w (head_of w argument object)) (λ head. after (typed_filter head.kind (shown_held f)) (λ filter. Ok (named_node p argument object head filter))))) argument e h
    (fails_next (typed_object i (shown_held o)) (λ object. after (defined p w (head_of w argument object)) (λ head. after (typed_filter head.kind (shown_held f)) (λ filter. Ok (named_node p argument object head filter)))) object e k
    (fails_next (defined p w (head_of w argument object)) (λ head. after (typed_filter head.kind (shown_held f)) (λ filter. Ok (named_node p argument object head filter))) head e l
    (fails_first (typed_filter head.kind (shown_held f)) (λ filter. Ok (named_node p argument object head filter)) e g))))
