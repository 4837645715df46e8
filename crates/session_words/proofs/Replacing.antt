-- Replacing the links and the parts of a tree one after another.
use Rattle.std.proofs.Common.{◌≡◌, ℕ, suc, ◌+◌, ◌<◌, List, [], ◌∷◌, ◌++◌, length, get_or, drop, map, Option, refl, sym, ap, ◌∙◌, add-one, drop-cons}
use Rattle.std.specs.declared.alloc.Global.{Global}
use Rattle.std.specs.declared.boxed.Box.{Box}
use Rattle.std.proofs.lemmas.List.{map-append}
use Rattle.rel_lexer.specs.declared.place.Place.{Place}
use Rattle.rel_grammar.specs.declared.tree.Tree.{Tree}
use Rattle.rel_grammar.specs.declared.tree.Tree.TheVariants as tree
use Rattle.rel_grammar.specs.declared.tree.Link2.{Link2}
use Rattle.rel_grammar.specs.declared.tree.LinkList.{LinkList}
use Rattle.rel_grammar.specs.declared.tree.TreeList.{TreeList}
use Rattle.rel_grammar.specs.Holding.{shown_held}
use Rattle.rel_grammar.specs.Trees.{Plain, Held, Linked, no_links, more_links, Parts, no_parts, more_parts}
use Rattle.rel_grammar.specs.Views.{PlainLink, link_items, linked, parted, shown, shown_link, shown_links, shown_parts, tree_items}
use Rattle.rel_grammar.proofs.Shown.{links-out, parts-out, shown-Phrase}
use Rattle.session_words.specs.declared.replace.Phrase.{Phrase}
use Rattle.session_words.specs.Inside.{replaced_link, rewritten_phrase}
use Rattle.session_words.specs.Replaced.{replaced, replaced_held, replaced_links, replaced_parts, rewriting_of, rewritten}

-- ---- links
-- the links that were made, and those that are left, replaced
abbrev pub links_then : List Link2 → List Link2 → Linked
links_then done left = linked (linked no_links (map shown_link done)) (map (λ x. replaced_link (shown_link x)) left)

replaced_on : (xs : List Link2) (l : Linked) → replaced_links (linked l (map shown_link xs)) ≡ linked (replaced_links l) (map (λ x. replaced_link (shown_link x)) xs)
replaced_on [] l = refl
replaced_on (x ∷ xs) l = replaced_on xs (more_links l (shown_link x).0 (shown_link x).1 (shown_link x).2)

linked-append : (l : Linked) (xs ys : List PlainLink) → linked l (xs ++ ys) ≡ linked (linked l xs) ys
linked-append l [] ys = refl
linked-append l (x ∷ xs) ys = linked-append (more_links l x.0 x.1 x.2) xs ys

pub links_begin : (l : LinkList) → links_then [] (link_items l) ≡ replaced_links (shown_links l)
links_begin l = sym (ap replaced_links (links-out l) ∙ replaced_on (link_items l) no_links)

pub links_more : (done xs : List Link2) (i : ℕ) (x y : Link2) → i < length xs → x ≡ get_or xs i x → shown_link y ≡ replaced_link (shown_link x)
    → links_then (done ++ y ∷ []) (drop (i + 1) xs) ≡ links_then done (drop i xs)
links_more done xs i x y inside is new =
    let rest = map (λ x. replaced_link (shown_link x)) (drop (suc i) xs) in
    let front = linked no_links (map shown_link done) in
    ap (λ k. links_then (done ++ y ∷ []) (drop k xs)) (add-one i)
    ∙ ap (λ l. linked (linked no_links l) rest) (map-append shown_link done (y ∷ []))
    ∙ ap (λ l. linked l rest) (linked-append no_links (map shown_link done) (shown_link y ∷ []))
    ∙ ap (λ s. linked (linked front (s ∷ [])) rest) new
    ∙ ap (λ (k : Link2). links_then done (k ∷ drop (suc i) xs)) is
    ∙ ap (links_then done) (sym (drop-cons xs i x inside))

-- ---- parts
abbrev pub parts_then : List Tree → List Tree → Parts
parts_then done left = parted (parted no_parts (map shown done)) (map (λ x. replaced (shown x)) left)

replaced_parts_on : (xs : List Tree) (l : Parts) → replaced_parts (parted l (map shown xs)) ≡ parted (replaced_parts l) (map (λ x. replaced (shown x)) xs)
replaced_parts_on [] l = refl
replaced_parts_on (x ∷ xs) l = replaced_parts_on xs (more_parts l (shown x))

parted-append : (l : Parts) (xs ys : List Plain) → parted l (xs ++ ys) ≡ parted (parted l xs) ys
parted-append l [] ys = refl
parted-append l (x ∷ xs) ys = parted-append (more_parts l x) xs ys

pub parts_begin : (l : TreeList) → parts_then [] (tree_items l) ≡ replaced_parts (shown_parts l)
parts_begin l = sym (ap replaced_parts (parts-out l) ∙ replaced_parts_on (tree_items l) no_parts)

pub parts_more : (done xs : List Tree) (i : ℕ) (x y : Tree) → i < length xs → x ≡ get_or xs i x → shown y ≡ replaced (shown x)
    → parts_then (done ++ y ∷ []) (drop (i + 1) xs) ≡ parts_then done (drop i xs)
parts_more done xs i x y inside is new =
    let rest = map (λ x. replaced (shown x)) (drop (suc i) xs) in
    let front = parted no_parts (map shown done) in
    ap (λ k. parts_then (done ++ y ∷ []) (drop k xs)) (add-one i)
    ∙ ap (λ l. parted (parted no_parts l) rest) (map-append shown done (y ∷ []))
    ∙ ap (λ l. parted l rest) (parted-append no_parts (map shown done) (shown y ∷ []))
    ∙ ap (λ s. parted (parted front (s ∷ [])) rest) new
    ∙ ap (λ (k : Tree). parts_then done (k ∷ drop (suc i) xs)) is
    ∙ ap (parts_then done) (sym (drop-cons xs i x inside))

-- ---- a phrase whose parts were replaced
pub phrase_replaced : (t : Tree) (p : Place) (w : List ℕ) (a f o : Option (Box Tree Global)) (q : Phrase) → t ≡ tree.Phrase p w a f o → q.place ≡ p → q.words ≡ w
    → shown_held q.argument ≡ replaced_held (shown_held a) → shown_held q.filter ≡ replaced_held (shown_held f)
    → shown_held q.object ≡ replaced_held (shown_held o) → rewritten_phrase q (rewriting_of q.words) ≡ replaced (shown t)
phrase_replaced t p w a f o q is place words argument filter object =
    let made : Place → List ℕ → Held → Held → Held → Plain = λ p w a f o. rewritten p w a f o (rewriting_of w) in
    (λ i. made (place i) (words i) (argument i) (filter i) (object i)) ∙ sym (ap replaced (shown-Phrase p w a f o)) ∙ sym (ap (λ (x : Tree). replaced (shown x)) is)
