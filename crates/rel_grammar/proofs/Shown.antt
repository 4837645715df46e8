-- What a tree shows that is made of parts. Other crates may cite these lemmas.
use Rattle.std.proofs.Common.{◌≡◌, ℕ, ℤ, subst, List, [], ◌∷◌, ◌++◌, map, refl, sym, ap, ◌∙◌, Option, Some, None}
use Rattle.std.proofs.lemmas.List.{map-append}
use Rattle.std.specs.declared.alloc.Global.{Global}
use Rattle.std.specs.declared.boxed.Box.{Box}
use Rattle.rel_lexer.specs.declared.place.Place.{Place}
use Rattle.rel_grammar.specs.declared.tree.Tree.{Tree, roll-Tree, out-Tree, roll-out-Tree}
use Rattle.rel_grammar.specs.declared.tree.Tree.TheVariants.{Number, Literal, It, Phrase, Body, Chain, Collection, rolls-Number, rolls-Literal, rolls-It, rolls-Phrase, rolls-Body, rolls-Chain, rolls-Collection}
use Rattle.rel_grammar.specs.declared.tree.Link2.{Link2}
use Rattle.rel_grammar.specs.declared.tree.LinkList.{LinkList, roll-LinkList, out-LinkList}
use Rattle.rel_grammar.specs.declared.tree.TreeList.{TreeList, roll-TreeList, out-TreeList}
use Rattle.rel_grammar.specs.declared.tree.Tree.TheOpen.{Tree-F, LinkList-F, TreeList-F}
use Rattle.rel_grammar.specs.declared.tree.Tree.TheOpen as layer
use Rattle.rel_grammar.specs.declared.tree.Tree.TheFolds.{fold-roll-Tree, fold-roll-LinkList, fold-roll-TreeList, fold_out-Link2, fold_out-LinkList, fold_out-TreeList}
use Rattle.rel_grammar.specs.Trees.{Plain, Linked, Parts, no_links, no_parts, numeral, literal, it, phrase, body, chain, collection, a_tree, with_filter, with_object, more_links, more_parts}
use Rattle.rel_grammar.specs.Views.{PlainLink, linked, parted, tree_step, link_step, links_step, trees_step, shown, shown_link, shown_links, shown_parts}
use Rattle.rel_grammar.specs.Holding.{shown_held}
use Rattle.rel_grammar.specs.Reads.{as_head, put_filter, put_object}
use Rattle.rel_grammar.proofs.Pushed.{linked-push, parted-push}

pub shown-Number : (p : Place) (n : ℤ) → shown (Number p n) ≡ numeral p n
shown-Number p n = ap shown (sym (rolls-Number p n)) ∙ fold-roll-Tree Plain PlainLink Linked Parts tree_step link_step links_step trees_step (layer.Number p n)

pub shown-Literal : (p : Place) (t : List ℕ) → shown (Literal p t) ≡ literal p t
shown-Literal p t = ap shown (sym (rolls-Literal p t)) ∙ fold-roll-Tree Plain PlainLink Linked Parts tree_step link_step links_step trees_step (layer.Literal p t)

pub shown-It : (p : Place) → shown (It p) ≡ it p
shown-It p = ap shown (sym (rolls-It p)) ∙ fold-roll-Tree Plain PlainLink Linked Parts tree_step link_step links_step trees_step (layer.It p)

phrase_rolls : (p : Place) (w : List ℕ) (a f o : Option (Box Tree Global)) → shown (roll-Tree (layer.Phrase p w a f o)) ≡ phrase p w (shown_held a) (shown_held f) (shown_held o)
phrase_rolls p w None None None = fold-roll-Tree Plain PlainLink Linked Parts tree_step link_step links_step trees_step (layer.Phrase p w None None None)
phrase_rolls p w None None (Some o) = fold-roll-Tree Plain PlainLink Linked Parts tree_step link_step links_step trees_step (layer.Phrase p w None None (Some o))
phrase_rolls p w None (Some f) None = fold-roll-Tree Plain PlainLink Linked Parts tree_step link_step links_step trees_step (layer.Phrase p w None (Some f) None)
phrase_rolls p w None (Some f) (Some o) = fold-roll-Tree Plain PlainLink Linked Parts tree_step link_step links_step trees_step (layer.Phrase p w None (Some f) (Some o))
phrase_rolls p w (Some a) None None = fold-roll-Tree Plain PlainLink Linked Parts tree_step link_step links_step trees_step (layer.Phrase p w (Some a) None None)
phrase_rolls p w (Some a) None (Some o) = fold-roll-Tree Plain PlainLink Linked Parts tree_step link_step links_step trees_step (layer.Phrase p w (Some a) None (Some o))
phrase_rolls p w (Some a) (Some f) None = fold-roll-Tree Plain PlainLink Linked Parts tree_step link_step links_step trees_step (layer.Phrase p w (Some a) (Some f) None)
phrase_rolls p w (Some a) (Some f) (Some o) = fold-roll-Tree Plain PlainLink Linked Parts tree_step link_step links_step trees_step (layer.Phrase p w (Some a) (Some f) (Some o))

pub shown-Phrase : (p : Place) (w : List ℕ) (a f o : Option (Box Tree Global)) → shown (Phrase p w a f o) ≡ phrase p w (shown_held a) (shown_held f) (shown_held o)
shown-Phrase p w a f o = ap shown (sym (rolls-Phrase p w a f o)) ∙ phrase_rolls p w a f o

body_rolls : (p : Place) (b : Box Tree Global) (f o : Option (Box Tree Global)) → shown (roll-Tree (layer.Body p b f o)) ≡ body p (shown b.value) (shown_held f) (shown_held o)
body_rolls p b None None = fold-roll-Tree Plain PlainLink Linked Parts tree_step link_step links_step trees_step (layer.Body p b None None)
body_rolls p b None (Some o) = fold-roll-Tree Plain PlainLink Linked Parts tree_step link_step links_step trees_step (layer.Body p b None (Some o))
body_rolls p b (Some f) None = fold-roll-Tree Plain PlainLink Linked Parts tree_step link_step links_step trees_step (layer.Body p b (Some f) None)
body_rolls p b (Some f) (Some o) = fold-roll-Tree Plain PlainLink Linked Parts tree_step link_step links_step trees_step (layer.Body p b (Some f) (Some o))

pub shown-Body : (p : Place) (b : Box Tree Global) (f o : Option (Box Tree Global)) → shown (Body p b f o) ≡ body p (shown b.value) (shown_held f) (shown_held o)
shown-Body p b f o = ap shown (sym (rolls-Body p b f o)) ∙ body_rolls p b f o

links-roll : (r : LinkList-F Tree Link2 LinkList TreeList) → shown_links (roll-LinkList r) ≡ linked no_links (map shown_link r.items.items)
links-roll r = fold-roll-LinkList Plain PlainLink Linked Parts tree_step link_step links_step trees_step r

pub shown-Link2 : (l : Link2) → shown_link l ≡ (l.place, l.sign, shown l.right)
shown-Link2 l = fold_out-Link2 Plain PlainLink Linked Parts tree_step link_step links_step trees_step l

pub links-out : (l : LinkList) → shown_links l ≡ linked no_links (map shown_link (out-LinkList l).items.items)
links-out l = fold_out-LinkList Plain PlainLink Linked Parts tree_step link_step links_step trees_step l

parts-roll : (r : TreeList-F Tree Link2 LinkList TreeList) → shown_parts (roll-TreeList r) ≡ parted no_parts (map shown r.items.items)
parts-roll r = fold-roll-TreeList Plain PlainLink Linked Parts tree_step link_step links_step trees_step r

pub parts-out : (l : TreeList) → shown_parts l ≡ parted no_parts (map shown (out-TreeList l).items.items)
parts-out l = fold_out-TreeList Plain PlainLink Linked Parts tree_step link_step links_step trees_step l

pub shown-Chain : (first : Box Tree Global) (rest : LinkList) → shown (Chain first rest) ≡ chain (shown first.value) (shown_links rest)
shown-Chain first rest = ap shown (sym (rolls-Chain first rest)) ∙ fold-roll-Tree Plain PlainLink Linked Parts tree_step link_step links_step trees_step (layer.Chain first rest)

pub shown-Collection : (parts : TreeList) → shown (Collection parts) ≡ collection (shown_parts parts)
shown-Collection parts = ap shown (sym (rolls-Collection parts)) ∙ fold-roll-Tree Plain PlainLink Linked Parts tree_step link_step links_step trees_step (layer.Collection parts)

pub links-pushed : (l : LinkList) (r : LinkList-F Tree Link2 LinkList TreeList) (x : Link2) → r.items.items ≡ (out-LinkList l).items.items ++ (x ∷ []) → shown_links (roll-LinkList r) ≡ more_links (shown_links l) (shown_link x).0 (shown_link x).1 (shown_link x).2
links-pushed l r x e =
    links-roll r
    ∙ ap (λ xs. linked no_links (map shown_link xs)) e
    ∙ ap (linked no_links) (map-append shown_link (out-LinkList l).items.items (x ∷ []))
    ∙ linked-push no_links (map shown_link (out-LinkList l).items.items) (shown_link x)
    ∙ ap (λ k. more_links k (shown_link x).0 (shown_link x).1 (shown_link x).2) (sym (links-out l))

pub parts-pushed : (l : TreeList) (r : TreeList-F Tree Link2 LinkList TreeList) (x : Tree) → r.items.items ≡ (out-TreeList l).items.items ++ (x ∷ []) → shown_parts (roll-TreeList r) ≡ more_parts (shown_parts l) (shown x)
parts-pushed l r x e =
    parts-roll r
    ∙ ap (λ xs. parted no_parts (map shown xs)) e
    ∙ ap (parted no_parts) (map-append shown (out-TreeList l).items.items (x ∷ []))
    ∙ parted-push no_parts (map shown (out-TreeList l).items.items) (shown x)
    ∙ ap (λ k. more_parts k (shown x)) (sym (parts-out l))

-- a head with its filter or object
pub filter-Phrase : (p : Place) (w : List ℕ) (a f o : Option (Box Tree Global)) (b : Box Tree Global) (head x : Tree) → head ≡ Phrase p w a f o → b.value ≡ x → shown (Phrase p w a (Some b) o) ≡ put_filter (shown head) (shown x)
filter-Phrase p w a f o b head x h k = shown-Phrase p w a (Some b) o ∙ ap (λ t. phrase p w (shown_held a) (a_tree (shown t)) (shown_held o)) k ∙ ap (λ t. put_filter t (shown x)) (sym (ap shown h ∙ shown-Phrase p w a f o))

pub filter-Body : (p : Place) (c : Box Tree Global) (f o : Option (Box Tree Global)) (b : Box Tree Global) (head x : Tree) → head ≡ Body p c f o → b.value ≡ x → shown (Body p c (Some b) o) ≡ put_filter (shown head) (shown x)
filter-Body p c f o b head x h k = shown-Body p c (Some b) o ∙ ap (λ t. body p (shown c.value) (a_tree (shown t)) (shown_held o)) k ∙ ap (λ t. put_filter t (shown x)) (sym (ap shown h ∙ shown-Body p c f o))

pub object-Phrase : (p : Place) (w : List ℕ) (a f o : Option (Box Tree Global)) (b : Box Tree Global) (head x : Tree) → head ≡ Phrase p w a f o → b.value ≡ x → shown (Phrase p w a f (Some b)) ≡ put_object (shown head) (shown x)
object-Phrase p w a f o b head x h k = shown-Phrase p w a f (Some b) ∙ ap (λ t. phrase p w (shown_held a) (shown_held f) (a_tree (shown t))) k ∙ ap (λ t. put_object t (shown x)) (sym (ap shown h ∙ shown-Phrase p w a f o))

pub object-Body : (p : Place) (c : Box Tree Global) (f o : Option (Box Tree Global)) (b : Box Tree Global) (head x : Tree) → head ≡ Body p c f o → b.value ≡ x → shown (Body p c f (Some b)) ≡ put_object (shown head) (shown x)
object-Body p c f o b head x h k = shown-Body p c f (Some b) ∙ ap (λ t. body p (shown c.value) (shown_held f) (a_tree (shown t))) k ∙ ap (λ t. put_object t (shown x)) (sym (ap shown h ∙ shown-Body p c f o))

pub filter-heads : (t f : Plain) → put_filter (as_head t) f ≡ with_filter t f
filter-heads (numeral p n) f = refl
filter-heads (literal p n) f = refl
filter-heads (it p) f = refl
filter-heads _ f = refl

pub object-heads : (t f : Plain) → put_object (as_head t) f ≡ with_object t f
object-heads (numeral p n) f = refl
object-heads (literal p n) f = refl
object-heads (it p) f = refl
object-heads _ f = refl

pub with-filter : (t head x : Plain) (r : Plain) → head ≡ as_head t → r ≡ put_filter head x → r ≡ with_filter t x
with-filter t head x r e h = h ∙ ap (λ k. put_filter k x) e ∙ filter-heads t x

pub with-object : (t head x : Plain) (r : Plain) → head ≡ as_head t → r ≡ put_object head x → r ≡ with_object t x
with-object t head x r e h = h ∙ ap (λ k. put_object k x) e ∙ object-heads t x

-- any other tree
abbrev Stays : (Plain → Plain) → Tree → Type 0
Stays f t = shown t ≡ f (shown t)

stays : (f : Plain → Plain) (t : Tree) (plain : Plain) → shown t ≡ plain → plain ≡ f plain → Stays f t
stays f t plain e h = subst (λ x. x ≡ f x) (sym e) h

other-filter-roll : (l : Tree-F Tree Link2 LinkList TreeList) (x : Plain) →
    ((p : Place) (w : List ℕ) (a f o : Option (Box Tree Global)) → roll-Tree l ≡ Phrase p w a f o → ⊥) →
    ((p : Place) (b : Box Tree Global) (f o : Option (Box Tree Global)) → roll-Tree l ≡ Body p b f o → ⊥) →
    Stays (λ t. put_filter t x) (roll-Tree l)
other-filter-roll (layer.Number p n) x h g = stays (λ k. put_filter k x) _ _ (fold-roll-Tree Plain PlainLink Linked Parts tree_step link_step links_step trees_step (layer.Number p n)) refl
other-filter-roll (layer.Literal p t) x h g = stays (λ k. put_filter k x) _ _ (fold-roll-Tree Plain PlainLink Linked Parts tree_step link_step links_step trees_step (layer.Literal p t)) refl
other-filter-roll (layer.It p) x h g = stays (λ k. put_filter k x) _ _ (fold-roll-Tree Plain PlainLink Linked Parts tree_step link_step links_step trees_step (layer.It p)) refl
other-filter-roll (layer.Phrase p w a f o) x h g = absurd (h p w a f o (rolls-Phrase p w a f o))
other-filter-roll (layer.Body p b f o) x h g = absurd (g p b f o (rolls-Body p b f o))
other-filter-roll (layer.Cast b cs) x h g = stays (λ k. put_filter k x) _ _ (fold-roll-Tree Plain PlainLink Linked Parts tree_step link_step links_step trees_step (layer.Cast b cs)) refl
other-filter-roll (layer.Unary p s r) x h g = stays (λ k. put_filter k x) _ _ (fold-roll-Tree Plain PlainLink Linked Parts tree_step link_step links_step trees_step (layer.Unary p s r)) refl
other-filter-roll (layer.Chain b r) x h g = stays (λ k. put_filter k x) _ _ (fold-roll-Tree Plain PlainLink Linked Parts tree_step link_step links_step trees_step (layer.Chain b r)) refl
other-filter-roll (layer.If p t y n) x h g = stays (λ k. put_filter k x) _ _ (fold-roll-Tree Plain PlainLink Linked Parts tree_step link_step links_step trees_step (layer.If p t y n)) refl
other-filter-roll (layer.Tuple ps) x h g = stays (λ k. put_filter k x) _ _ (fold-roll-Tree Plain PlainLink Linked Parts tree_step link_step links_step trees_step (layer.Tuple ps)) refl
other-filter-roll (layer.Collection ps) x h g = stays (λ k. put_filter k x) _ _ (fold-roll-Tree Plain PlainLink Linked Parts tree_step link_step links_step trees_step (layer.Collection ps)) refl

pub other-filter : (t : Tree) (x : Plain) →
    ((p : Place) (w : List ℕ) (a f o : Option (Box Tree Global)) → t ≡ Phrase p w a f o → ⊥) →
    ((p : Place) (b : Box Tree Global) (f o : Option (Box Tree Global)) → t ≡ Body p b f o → ⊥) →
    shown t ≡ put_filter (shown t) x
other-filter t x h g =
    let e = roll-out-Tree t in
    subst (λ k. Stays (λ y. put_filter y x) k) e (other-filter-roll (out-Tree t) x (λ p w a f o i. h p w a f o (sym e ∙ i)) (λ p b f o i. g p b f o (sym e ∙ i)))

other-object-roll : (l : Tree-F Tree Link2 LinkList TreeList) (x : Plain) →
    ((p : Place) (w : List ℕ) (a f o : Option (Box Tree Global)) → roll-Tree l ≡ Phrase p w a f o → ⊥) →
    ((p : Place) (b : Box Tree Global) (f o : Option (Box Tree Global)) → roll-Tree l ≡ Body p b f o → ⊥) →
    Stays (λ t. put_object t x) (roll-Tree l)
other-object-roll (layer.Number p n) x h g = stays (λ k. put_object k x) _ _ (fold-roll-Tree Plain PlainLink Linked Parts tree_step link_step links_step trees_step (layer.Number p n)) refl
other-object-roll (layer.Literal p t) x h g = stays (λ k. put_object k x) _ _ (fold-roll-Tree Plain PlainLink Linked Parts tree_step link_step links_step trees_step (layer.Literal p t)) refl
other-object-roll (layer.It p) x h g = stays (λ k. put_object k x) _ _ (fold-roll-Tree Plain PlainLink Linked Parts tree_step link_step links_step trees_step (layer.It p)) refl
other-object-roll (layer.Phrase p w a f o) x h g = absurd (h p w a f o (rolls-Phrase p w a f o))
other-object-roll (layer.Body p b f o) x h g = absurd (g p b f o (rolls-Body p b f o))
other-object-roll (layer.Cast b cs) x h g = stays (λ k. put_object k x) _ _ (fold-roll-Tree Plain PlainLink Linked Parts tree_step link_step links_step trees_step (layer.Cast b cs)) refl
other-object-roll (layer.Unary p s r) x h g = stays (λ k. put_object k x) _ _ (fold-roll-Tree Plain PlainLink Linked Parts tree_step link_step links_step trees_step (layer.Unary p s r)) refl
other-object-roll (layer.Chain b r) x h g = stays (λ k. put_object k x) _ _ (fold-roll-Tree Plain PlainLink Linked Parts tree_step link_step links_step trees_step (layer.Chain b r)) refl
other-object-roll (layer.If p t y n) x h g = stays (λ k. put_object k x) _ _ (fold-roll-Tree Plain PlainLink Linked Parts tree_step link_step links_step trees_step (layer.If p t y n)) refl
other-object-roll (layer.Tuple ps) x h g = stays (λ k. put_object k x) _ _ (fold-roll-Tree Plain PlainLink Linked Parts tree_step link_step links_step trees_step (layer.Tuple ps)) refl
other-object-roll (layer.Collection ps) x h g = stays (λ k. put_object k x) _ _ (fold-roll-Tree Plain PlainLink Linked Parts tree_step link_step links_step trees_step (layer.Collection ps)) refl

pub other-object : (t : Tree) (x : Plain) →
    ((p : Place) (w : List ℕ) (a f o : Option (Box Tree Global)) → t ≡ Phrase p w a f o → ⊥) →
    ((p : Place) (b : Box Tree Global) (f o : Option (Box Tree Global)) → t ≡ Body p b f o → ⊥) →
    shown t ≡ put_object (shown t) x
other-object t x h g =
    let e = roll-out-Tree t in
    subst (λ k. Stays (λ y. put_object y x) k) e (other-object-roll (out-Tree t) x (λ p w a f o i. h p w a f o (sym e ∙ i)) (λ p b f o i. g p b f o (sym e ∙ i)))
