-- What is written for the links and the parts that are left.
use Rattle.std.proofs.Common.{◌≡◌, ℕ, suc, ◌+◌, ◌<◌, Bool, true, false, cond, List, [], ◌∷◌, length, get_or, drop, map, refl, sym, ap, ◌∙◌, add-one, drop-cons}
use Rattle.rel_lexer.specs.declared.sign.Sign.{Sign}
use Rattle.rel_grammar.specs.declared.tree.Tree.{Tree}
use Rattle.rel_grammar.specs.declared.tree.Link2.{Link2, out-Link2}
use Rattle.rel_grammar.specs.declared.tree.LinkList.{LinkList, out-LinkList}
use Rattle.rel_grammar.specs.declared.tree.TreeList.{TreeList, out-TreeList}
use Rattle.rel_print.specs.declared.pen.Pen.{Pen}
use Rattle.rel_grammar.specs.Trees.{Plain, Linked, no_links, more_links, Parts, no_parts, more_parts}
use Rattle.rel_grammar.specs.declared.tree.Tree.TheFolds.{fold_out-Link2, fold_out-LinkList, fold_out-TreeList}
use Rattle.rel_grammar.specs.Views.{PlainLink, tree_step, link_step, links_step, trees_step, linked, parted, shown, shown_link, shown_links, shown_parts}
use Rattle.rel_print.specs.Pages.{put_sign}
use Rattle.rel_print.specs.Written.{written, written_binary, written_links, written_parts, separated}

abbrev pub links_on : List Link2 → Pen → Pen
links_on [] pen = pen
links_on (x ∷ xs) pen = links_on xs (written (shown_link x).2 (written_binary (shown_link x).1 pen))

links_on-linked : (xs : List Link2) (ls : Linked) (pen : Pen) → links_on xs (written_links ls pen) ≡ written_links (linked ls (map shown_link xs)) pen
links_on-linked [] ls pen = refl
links_on-linked (x ∷ xs) ls pen = links_on-linked xs (more_links ls (shown_link x).0 (shown_link x).1 (shown_link x).2) pen

pub links_begin : (l : LinkList) (pen : Pen) → links_on (out-LinkList l).items.items pen ≡ written_links (shown_links l) pen
links_begin l pen = links_on-linked (out-LinkList l).items.items no_links pen ∙ ap (λ ls. written_links ls pen) (sym (fold_out-LinkList Plain PlainLink Linked Parts tree_step link_step links_step trees_step l))

abbrev pub parts_on : Bool → Sign → List Tree → Pen → Pen
parts_on between s [] pen = pen
parts_on between s (t ∷ ts) pen = parts_on true s ts (written (shown t) (cond between (put_sign s pen) pen))

abbrev is_more : Parts → Bool
is_more no_parts = false
is_more (more_parts ps t) = true

separates : (s : Sign) (ps : Parts) (pen : Pen) → cond (is_more ps) (put_sign s pen) pen ≡ separated s ps pen
separates s no_parts pen = refl
separates s (more_parts ps t) pen = refl

parts_on-parted : (s : Sign) (ts : List Tree) (ps : Parts) (pen : Pen) → parts_on (is_more ps) s ts (written_parts s ps pen) ≡ written_parts s (parted ps (map shown ts)) pen
parts_on-parted s [] ps pen = refl
parts_on-parted s (t ∷ ts) ps pen =
    ap (λ p. parts_on true s ts (written (shown t) p)) (separates s ps (written_parts s ps pen))
    ∙ parts_on-parted s ts (more_parts ps (shown t)) pen

pub parts_begin : (s : Sign) (l : TreeList) (pen : Pen) → parts_on false s (out-TreeList l).items.items pen ≡ written_parts s (shown_parts l) pen
parts_begin s l pen = parts_on-parted s (out-TreeList l).items.items no_parts pen ∙ ap (λ ps. written_parts s ps pen) (sym (fold_out-TreeList Plain PlainLink Linked Parts tree_step link_step links_step trees_step l))

pub links_more : (xs : List Link2) (i : ℕ) (x : Link2) (pen mid new : Pen) → i < length xs → x ≡ get_or xs i x → mid ≡ written_binary (out-Link2 x).sign pen → new ≡ written (shown (out-Link2 x).right) mid → links_on (drop (i + 1) xs) new ≡ links_on (drop i xs) pen
links_more xs i x pen mid new h e m n =
    ap (λ k. links_on (drop k xs) new) (add-one i)
    ∙ ap (links_on (drop (suc i) xs)) (n ∙ ap (written (shown (out-Link2 x).right)) m ∙ ap (λ (l : PlainLink). written l.2 (written_binary l.1 pen)) (sym (fold_out-Link2 Plain PlainLink Linked Parts tree_step link_step links_step trees_step x)))
    ∙ ap (λ (k : Link2). links_on (k ∷ drop (suc i) xs) pen) e
    ∙ ap (λ l. links_on l pen) (sym (drop-cons xs i x h))
