-- The first phrase that is too deep, part by part.
use Rattle.std.proofs.Common.{◌≡◌, ℕ, suc, ◌+◌, ◌-◌, ◌<◌, ◌≤◌, Bool, true, false, ◌&&◌, ◌==◌, cond, nat_le, List, [], ◌∷◌, ◌++◌, length, get_or, drop, map, Option, None, Some, option_map, find, refl, sym, ap, ◌∙◌, add-one, drop-cons, arith}
use Rattle.std.specs.declared.alloc.Global.{Global}
use Rattle.std.specs.declared.boxed.Box.{Box}
use Rattle.std.specs.Option.{option_or}
use Rattle.std.proofs.lemmas.Bool.Decides.{nat_tests}
use Rattle.std.proofs.lemmas.List.{drop_all}
use Rattle.std.proofs.lemmas.List.Folds.{find-append}
use Rattle.rel_lexer.specs.declared.place.Place.{Place}
use Rattle.rel_grammar.specs.declared.tree.Tree.{Tree}
use Rattle.rel_grammar.specs.declared.tree.Tree.TheVariants.{Phrase}
use Rattle.rel_grammar.specs.declared.tree.Link2.{Link2}
use Rattle.rel_grammar.specs.declared.tree.LinkList.{LinkList}
use Rattle.rel_grammar.specs.declared.tree.TreeList.{TreeList}
use Rattle.rel_grammar.specs.Holding.{shown_held}
use Rattle.rel_grammar.specs.Sentences.{deepest}
use Rattle.rel_grammar.specs.Trees.{Plain, numeral, literal, it, phrase, body, cast, unary, chain, conditional, tuple, collection, Held, no_tree, a_tree, Linked, no_links, more_links, Parts, no_parts, more_parts}
use Rattle.rel_grammar.specs.Views.{PlainLink, link_items, linked, parted, shown, shown_link, shown_links, shown_parts, tree_items}
use Rattle.rel_grammar.proofs.Shown.{links-out, parts-out, shown-Link2, shown-Phrase}
use Rattle.session_words.specs.Depths.{Standing, adds_folder, first_place, held_phrases, is_too_deep, link_phrases, part_phrases, phrases}
use Rattle.session_words.specs.Inside.{first_held, first_in, first_in_links, first_in_parts, place_if_deep}
use Rattle.session_words.specs.Replaced.{rewriting_of}

-- ---- lists of phrases
place_of : Option Standing → Option Place
place_of o = option_map (λ (s : Standing). s.place) o

place_or : (a b : Option Standing) → place_of (option_or a b) ≡ option_or (place_of a) (place_of b)
unfolding place_of
place_or None b = refl
place_or (Some s) b = refl

first_append : (xs ys : List Standing) → first_place (xs ++ ys) ≡ option_or (first_place xs) (first_place ys)
unfolding first_place place_of
first_append xs ys = ap (option_map (λ (s : Standing). s.place)) (find-append is_too_deep xs ys) ∙ place_or (find is_too_deep xs) (find is_too_deep ys)

first_three : (xs ys zs : List Standing) (a b c : Option Place) → a ≡ first_place xs → b ≡ first_place ys → c ≡ first_place zs
    → option_or a (option_or b c) ≡ first_place (xs ++ (ys ++ zs))
first_three xs ys zs a b c is_a is_b is_c =
    ap (λ o. option_or o (option_or b c)) is_a ∙ ap (λ o. option_or (first_place xs) (option_or o c)) is_b
    ∙ ap (λ o. option_or (first_place xs) (option_or (first_place ys) o)) is_c
    ∙ ap (option_or (first_place xs)) (sym (first_append ys zs)) ∙ sym (first_append xs (ys ++ zs))

first_two : (xs ys : List Standing) (a b : Option Place) → a ≡ first_place xs → b ≡ first_place ys → option_or a b ≡ first_place (xs ++ ys)
first_two xs ys a b is_a is_b = ap (λ o. option_or o b) is_a ∙ ap (option_or (first_place xs)) is_b ∙ sym (first_append xs ys)

-- one level deeper there is one level less
deeper : (room depth : ℕ) → room ≡ deepest - depth → room - 1 ≡ deepest - (depth + 1)
deeper room depth is = omega (arith, is)

-- ---- a phrase by itself
-- a phrase of these words that stands so deep
abbrev standing : Place → List ℕ → Held → ℕ → Standing
standing place words object depth = record { place = place; words = words; object = object; depth = depth }

-- a phrase that is too deep is the first, and any other isn't
phrase_deep : (s : Standing) (rest : List Standing) → is_too_deep s ≡ true → Some s.place ≡ first_place (s ∷ rest)
unfolding first_place
phrase_deep s rest is = sym (ap (λ b. option_map (λ (s : Standing). s.place) (cond b (Some s) (find is_too_deep rest))) is)

phrase_shallow : (s : Standing) (rest : List Standing) → is_too_deep s ≡ false → first_place rest ≡ first_place (s ∷ rest)
unfolding first_place
phrase_shallow s rest is = sym (ap (λ b. option_map (λ (s : Standing). s.place) (cond b (Some s) (find is_too_deep rest))) is)

at_bottom : (room depth : ℕ) → room ≡ deepest - depth → nat_le deepest depth ≡ (room == 0)
at_bottom room depth is = by (nat_le deepest depth) refl (room == 0) refl
  where
    by : (a : Bool) → nat_le deepest depth ≡ a → (b : Bool) → (room == 0) ≡ b → a ≡ b
    by true x true y = refl
    by false x false y = refl
    by true x false y = absurd (grind (arith, nat_tests, is, x, y))
    by false x true y = absurd (grind (arith, nat_tests, is, x, y))

tested : (place : Place) (words : List ℕ) (object : Held) (depth : ℕ)
    → is_too_deep (standing place words object depth) ≡ (adds_folder object (rewriting_of words) && (deepest - depth) == 0)
unfolding is_too_deep
tested place words object depth = ap (λ b. adds_folder object (rewriting_of words) && b) (at_bottom (deepest - depth) depth refl)

-- the phrase, or else the first of those behind it
phrase_first : (place : Place) (words : List ℕ) (object : Held) (depth : ℕ) (rest : List Standing)
    → option_or (place_if_deep (deepest - depth) place words object) (first_place rest) ≡ first_place (standing place words object depth ∷ rest)
phrase_first place words object depth rest =
    by (adds_folder object (rewriting_of words) && (deepest - depth) == 0) (tested place words object depth)
  where
    by : (b : Bool) → is_too_deep (standing place words object depth) ≡ b
        → option_or (cond b (Some place) None) (first_place rest) ≡ first_place (standing place words object depth ∷ rest)
    by true is = phrase_deep (standing place words object depth) rest is
    by false is = phrase_shallow (standing place words object depth) rest is

and_true : (a b : Bool) → b ≡ true → (a && b) ≡ a
and_true true b is = is
and_true false b is = refl

and_false : (a b : Bool) → b ≡ false → (a && b) ≡ false
and_false true b is = is
and_false false b is = refl

not_zero : (n : ℕ) → 0 < n → (n == 0) ≡ false
not_zero n some = by (n == 0) refl
  where
    by : (b : Bool) → (n == 0) ≡ b → b ≡ false
    by true is = absurd (grind (arith, nat_tests, some, is))
    by false is = refl

pub deep_with_room : (room : ℕ) (place : Place) (words : List ℕ) (object : Held) → 0 < room → None ≡ place_if_deep room place words object
deep_with_room room place words object some =
    sym (ap (λ b. cond b (Some place) None) (and_false (adds_folder object (rewriting_of words)) (room == 0) (not_zero room some)))

pub deep_as_is : (room : ℕ) (place : Place) (words : List ℕ) (object : Held) (adds : Bool) → adds ≡ adds_folder object (rewriting_of words) → adds ≡ false
    → None ≡ place_if_deep room place words object
deep_as_is room place words object adds same is =
    sym (ap (λ b. cond (b && room == 0) (Some place) None) (sym same ∙ is))

pub deep_without_room : (room : ℕ) (place : Place) (words : List ℕ) (object : Held) (adds : Bool) → room ≡ 0 → adds ≡ adds_folder object (rewriting_of words)
    → adds ≡ true → Some place ≡ place_if_deep room place words object
deep_without_room room place words object adds none same is =
    let test : (room == 0) ≡ true = ap (λ n. n == 0) none in
    sym (ap (λ b. cond b (Some place) None) (and_true (adds_folder object (rewriting_of words)) (room == 0) test ∙ sym same ∙ is))

-- the phrase, or else the first in its parts
pub phrase_in : (room inside : ℕ) (t : Tree) (p : Place) (w : List ℕ) (a f o : Option (Box Tree Global)) (deep x y z behind r : Option Place)
    → t ≡ Phrase p w a f o → inside ≡ room - 1 → deep ≡ place_if_deep room p w (shown_held o) → x ≡ first_held room (shown_held a)
    → y ≡ first_held room (shown_held f) → z ≡ first_held inside (shown_held o) → behind ≡ option_or x (option_or y z) → r ≡ option_or deep behind
    → r ≡ first_in room (shown t)
phrase_in room inside t p w a f o deep x y z behind r is less is_deep is_x is_y is_z is_behind is_r =
    let deeper_z : z ≡ first_held (room - 1) (shown_held o) = is_z ∙ ap (λ n. first_held n (shown_held o)) less in
    is_r ∙ ap (option_or deep) is_behind
    ∙ (λ i. option_or (is_deep i) (option_or (is_x i) (option_or (is_y i) (deeper_z i))))
    ∙ sym (ap (first_in room) (ap shown is ∙ shown-Phrase p w a f o))

-- ---- what the levels of a tree have room for
none_first : None ≡ first_place []
unfolding first_place
none_first = refl

in_behind : (d : ℕ) (t : Plain) → first_in (deepest - (d + 1)) t ≡ first_place (phrases (d + 1) t) → first_in (deepest - d - 1) t ≡ first_place (phrases (d + 1) t)
in_behind d t is = ap (λ r. first_in r t) (deeper (deepest - d) d refl) ∙ is

held_behind : (d : ℕ) (h : Held) → first_held (deepest - (d + 1)) h ≡ first_place (held_phrases (d + 1) h)
    → first_held (deepest - d - 1) h ≡ first_place (held_phrases (d + 1) h)
held_behind d h is = ap (λ r. first_held r h) (deeper (deepest - d) d refl) ∙ is

mutual
  -- with the room that is left at a depth, it is the first phrase of a tree at that depth
  pub in_is : (d : ℕ) (t : Plain) → first_in (deepest - d) t ≡ first_place (phrases d t)
  in_is d (numeral p n) = none_first
  in_is d (literal p t) = none_first
  in_is d (it p) = none_first
  in_is d (phrase p w a f o) =
      let rest = held_phrases d a ++ (held_phrases d f ++ held_phrases (d + 1) o) in
      ap (option_or (place_if_deep (deepest - d) p w o))
      (first_three (held_phrases d a) (held_phrases d f) (held_phrases (d + 1) o) (first_held (deepest - d) a) (first_held (deepest - d) f)
      (first_held (deepest - d - 1) o) (held_is d a) (held_is d f) (held_behind d o (held_is (d + 1) o)))
      ∙ phrase_first p w o d rest
  in_is d (body p b f o) =
      first_three (phrases (d + 1) b) (held_phrases d f) (held_phrases (d + 1) o) (first_in (deepest - d - 1) b) (first_held (deepest - d) f)
      (first_held (deepest - d - 1) o) (in_behind d b (in_is (d + 1) b)) (held_is d f) (held_behind d o (held_is (d + 1) o))
  in_is d (cast t cs) = in_is d t
  in_is d (unary p s t) = in_behind d t (in_is (d + 1) t)
  in_is d (chain t ls) =
      first_two (phrases d t) (link_phrases d ls) (first_in (deepest - d) t) (first_in_links (deepest - d) ls) (in_is d t) (links_is d ls)
  in_is d (conditional p t y n) =
      first_three (phrases (d + 1) t) (phrases (d + 1) y) (phrases (d + 1) n) (first_in (deepest - d - 1) t) (first_in (deepest - d - 1) y)
      (first_in (deepest - d - 1) n) (in_behind d t (in_is (d + 1) t)) (in_behind d y (in_is (d + 1) y)) (in_behind d n (in_is (d + 1) n))
  in_is d (tuple ps) = parts_is d ps
  in_is d (collection ps) = parts_is d ps

  held_is : (d : ℕ) (h : Held) → first_held (deepest - d) h ≡ first_place (held_phrases d h)
  held_is d no_tree = none_first
  held_is d (a_tree t) = in_is d t

  links_is : (d : ℕ) (l : Linked) → first_in_links (deepest - d) l ≡ first_place (link_phrases d l)
  links_is d no_links = none_first
  links_is d (more_links ls p s t) =
      first_two (link_phrases d ls) (phrases d t) (first_in_links (deepest - d) ls) (first_in (deepest - d) t) (links_is d ls) (in_is d t)

  parts_is : (d : ℕ) (l : Parts) → first_in_parts (deepest - d) l ≡ first_place (part_phrases d l)
  parts_is d no_parts = none_first
  parts_is d (more_parts ps t) =
      first_two (part_phrases d ps) (phrases d t) (first_in_parts (deepest - d) ps) (first_in (deepest - d) t) (parts_is d ps) (in_is d t)

-- ---- links and parts, one after another
or_none : (o : Option Place) → option_or o None ≡ o
or_none None = refl
or_none (Some p) = refl

or_behind : (a b c : Option Place) → option_or a (option_or b c) ≡ option_or (option_or a b) c
or_behind None b c = refl
or_behind (Some p) b c = refl

abbrev pub links_on : ℕ → List Link2 → Option Place
links_on room [] = None
links_on room (x ∷ xs) = option_or (first_in room (shown_link x).2) (links_on room xs)

links_on-linked : (room : ℕ) (xs : List Link2) (l : Linked) → option_or (first_in_links room l) (links_on room xs) ≡ first_in_links room (linked l (map shown_link xs))
links_on-linked room [] l = or_none (first_in_links room l)
links_on-linked room (x ∷ xs) l =
    or_behind (first_in_links room l) (first_in room (shown_link x).2) (links_on room xs)
    ∙ links_on-linked room xs (more_links l (shown_link x).0 (shown_link x).1 (shown_link x).2)

pub links_begin : (room : ℕ) (l : LinkList) → links_on room (link_items l) ≡ first_in_links room (shown_links l)
links_begin room l = links_on-linked room (link_items l) no_links ∙ ap (first_in_links room) (sym (links-out l))

link_right : (x : Link2) → shown x.right ≡ (shown_link x).2
link_right x = sym (ap (λ (l : PlainLink). l.2) (shown-Link2 x))

links_next : (room : ℕ) (xs : List Link2) (i : ℕ) (x : Link2) (found : Option Place) → i < length xs → x ≡ get_or xs i x
    → found ≡ first_in room (shown x.right) → option_or found (links_on room (drop (i + 1) xs)) ≡ links_on room (drop i xs)
links_next room xs i x found inside is here =
    ap (λ o. option_or o (links_on room (drop (i + 1) xs))) (here ∙ ap (first_in room) (link_right x))
    ∙ ap (λ k. option_or (first_in room (shown_link x).2) (links_on room (drop k xs))) (add-one i)
    ∙ ap (λ (k : Link2). links_on room (k ∷ drop (suc i) xs)) is ∙ ap (links_on room) (sym (drop-cons xs i x inside))

pub link_found : (room : ℕ) (xs : List Link2) (i : ℕ) (x : Link2) (place : Place) → i < length xs → x ≡ get_or xs i x
    → Some place ≡ first_in room (shown x.right) → Some place ≡ links_on room (drop i xs)
link_found room xs i x place inside is here = links_next room xs i x (Some place) inside is here

pub link_passed : (room : ℕ) (xs : List Link2) (i : ℕ) (x : Link2) → i < length xs → x ≡ get_or xs i x → None ≡ first_in room (shown x.right)
    → links_on room (drop (i + 1) xs) ≡ links_on room (drop i xs)
link_passed room xs i x inside is here = links_next room xs i x None inside is here

pub links_over : (room : ℕ) (xs : List Link2) (i : ℕ) → length xs ≤ i → None ≡ links_on room (drop i xs)
links_over room xs i over = sym (ap (links_on room) (drop_all i xs over))

abbrev pub parts_on : ℕ → List Tree → Option Place
parts_on room [] = None
parts_on room (x ∷ xs) = option_or (first_in room (shown x)) (parts_on room xs)

parts_on-parted : (room : ℕ) (xs : List Tree) (l : Parts) → option_or (first_in_parts room l) (parts_on room xs) ≡ first_in_parts room (parted l (map shown xs))
parts_on-parted room [] l = or_none (first_in_parts room l)
parts_on-parted room (x ∷ xs) l =
    or_behind (first_in_parts room l) (first_in room (shown x)) (parts_on room xs) ∙ parts_on-parted room xs (more_parts l (shown x))

pub parts_begin : (room : ℕ) (l : TreeList) → parts_on room (tree_items l) ≡ first_in_parts room (shown_parts l)
parts_begin room l = parts_on-parted room (tree_items l) no_parts ∙ ap (first_in_parts room) (sym (parts-out l))

parts_next : (room : ℕ) (xs : List Tree) (i : ℕ) (x : Tree) (found : Option Place) → i < length xs → x ≡ get_or xs i x
    → found ≡ first_in room (shown x) → option_or found (parts_on room (drop (i + 1) xs)) ≡ parts_on room (drop i xs)
parts_next room xs i x found inside is here =
    ap (λ o. option_or o (parts_on room (drop (i + 1) xs))) here
    ∙ ap (λ k. option_or (first_in room (shown x)) (parts_on room (drop k xs))) (add-one i)
    ∙ ap (λ (k : Tree). parts_on room (k ∷ drop (suc i) xs)) is ∙ ap (parts_on room) (sym (drop-cons xs i x inside))

pub part_found : (room : ℕ) (xs : List Tree) (i : ℕ) (x : Tree) (place : Place) → i < length xs → x ≡ get_or xs i x
    → Some place ≡ first_in room (shown x) → Some place ≡ parts_on room (drop i xs)
part_found room xs i x place inside is here = parts_next room xs i x (Some place) inside is here

pub part_passed : (room : ℕ) (xs : List Tree) (i : ℕ) (x : Tree) → i < length xs → x ≡ get_or xs i x → None ≡ first_in room (shown x)
    → parts_on room (drop (i + 1) xs) ≡ parts_on room (drop i xs)
part_passed room xs i x inside is here = parts_next room xs i x None inside is here

pub parts_over : (room : ℕ) (xs : List Tree) (i : ℕ) → length xs ≤ i → None ≡ parts_on room (drop i xs)
parts_over room xs i over = sym (ap (parts_on room) (drop_all i xs over))
