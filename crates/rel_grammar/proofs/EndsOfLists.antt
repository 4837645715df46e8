-- Where lists of trees and of links begin and end, and of casts.
use Rattle.std.proofs.Common.{◌≡◌, ℕ, ◌+◌, ◌-◌, ◌<◌, ◌≤◌, List, [], ◌∷◌, ◌++◌, length, get_or, take, map, refl, sym, ap, ◌∙◌, arith}
use Rattle.std.proofs.lemmas.List.{map-append, take_more, take_all}
use Rattle.rel_grammar.specs.declared.tree.Tree.{Tree}
use Rattle.rel_grammar.specs.declared.tree.Link2.{Link2, out-Link2}
use Rattle.rel_grammar.specs.declared.tree.Tree.TheFolds.{fold_out-Link2}
use Rattle.rel_grammar.specs.declared.tree.LinkList.{LinkList, out-LinkList}
use Rattle.rel_grammar.specs.declared.tree.TreeList.{TreeList, out-TreeList}
use Rattle.rel_grammar.specs.Spans.{begin_of, end_of, parts_begin, parts_end, links_end}
use Rattle.rel_grammar.specs.Trees.{Plain, Linked, no_links, Parts, no_parts, more_parts}
use Rattle.rel_grammar.specs.Views.{PlainLink, linked, parted, tree_step, link_step, links_step, trees_step, shown, shown_link, shown_links, shown_parts}
use Rattle.rel_grammar.proofs.Pushed.{linked-push, parted-push}
use Rattle.rel_grammar.proofs.Shown.{links-out, parts-out}

begin-parted : (l : Parts) (x : Plain) (ys : List Plain) (at : ℕ) → parts_begin (parted (more_parts l x) ys) at ≡ parts_begin l (begin_of x)
begin-parted l x [] at = refl
begin-parted l x (y ∷ ys) at = begin-parted (more_parts l x) y ys at

begin-first : (xs : List Tree) (t : Tree) (at : ℕ) → 0 < length xs → t ≡ get_or xs 0 t → parts_begin (parted no_parts (map shown xs)) at ≡ begin_of (shown t)
begin-first [] t at h e = absurd (omega arith)
begin-first (x ∷ xs) t at h e = begin-parted no_parts (shown x) (map shown xs) at ∙ ap (λ k. begin_of (shown k)) (sym e)

-- The first of the trees of a list begins where the list begins.
pub begins : (l : TreeList) (xs : List Tree) (t : Tree) (n : ℕ) → xs ≡ (out-TreeList l).items.items → 0 < length xs → t ≡ get_or xs 0 t → n ≡ begin_of (shown t) → n ≡ parts_begin (shown_parts l) 0
begins l xs t n e h i k = k ∙ sym (begin-first xs t 0 h i) ∙ ap (λ ys. parts_begin (parted no_parts (map shown ys)) 0) e ∙ ap (λ p. parts_begin p 0) (sym (parts-out l))

-- the last apart
last_split : {X : Type 0} (xs : List X) (t : X) → 0 < length xs → t ≡ get_or xs (length xs - 1) t → xs ≡ take (length xs - 1) xs ++ (t ∷ [])
last_split {X} xs t h e =
    let below : length xs - 1 < length xs = omega arith in
    let same : length xs - 1 + 1 ≡ length xs = omega arith in
    let whole : length xs ≤ length xs - 1 + 1 = omega arith in
    sym (take_all (length xs - 1 + 1) xs whole) ∙ take_more xs (length xs - 1) t below ∙ ap (λ k. take (length xs - 1) xs ++ (k ∷ [])) (sym e)

pub parts_ends : (l : TreeList) (xs : List Tree) (t : Tree) (n : ℕ) → xs ≡ (out-TreeList l).items.items → 0 < length xs → t ≡ get_or xs (length xs - 1) t → n ≡ end_of (shown t) → n ≡ parts_end (shown_parts l)
parts_ends l xs t n e h i k =
    let front = take (length xs - 1) xs in
    k ∙ ap parts_end (sym (parted-push no_parts (map shown front) (shown t)))
    ∙ ap (λ ys. parts_end (parted no_parts ys)) (sym (map-append shown front (t ∷ [])))
    ∙ ap (λ ys. parts_end (parted no_parts (map shown ys))) (sym (last_split xs t h i) ∙ e)
    ∙ ap parts_end (sym (parts-out l))

-- the right operand of a link
pub link-right : (x : Link2) → (shown_link x).2 ≡ shown (out-Link2 x).right
link-right x = ap (λ l. l.2) (fold_out-Link2 Plain PlainLink Linked Parts tree_step link_step links_step trees_step x)

pub links_ends : (l : LinkList) (xs : List Link2) (x : Link2) (at n : ℕ) → xs ≡ (out-LinkList l).items.items → 0 < length xs → x ≡ get_or xs (length xs - 1) x → n ≡ end_of (shown_link x).2 → n ≡ links_end at (shown_links l)
links_ends l xs x at n e h i k =
    let front = take (length xs - 1) xs in
    k ∙ ap (links_end at) (sym (linked-push no_links (map shown_link front) (shown_link x)))
    ∙ ap (λ ys. links_end at (linked no_links ys)) (sym (map-append shown_link front (x ∷ [])))
    ∙ ap (λ ys. links_end at (linked no_links (map shown_link ys))) (sym (last_split xs x h i) ∙ e)
    ∙ ap (links_end at) (sym (links-out l))
