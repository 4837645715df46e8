-- Lists that grow at their end, gone through from their beginning.
use Rattle.std.proofs.Common.{◌≡◌, ℕ, suc, ◌+◌, ◌<◌, length, get_or, drop, arith, Bool, true, false, ◌||◌, List, [], ◌∷◌, ◌++◌, map, refl, sym, ap, ◌∙◌, Option, Some, Ok, Err}
use Rattle.std.proofs.lemmas.List.{append-nil, drop_all}
use Rattle.std.proofs.Common.{append_assoc, ◌≤◌}
use Rattle.std.specs.List.{list_any}
use Rattle.rel_grammar.specs.Spans.{span_of_tree}
use Rattle.rel_grammar.specs.Trees.{Plain, Linked, Parts}
use Rattle.rel_grammar.specs.Trees as tree
use Rattle.rel_grammar.specs.Views as trees
use Rattle.rel_value.specs.Plain.{PlainKind, PlainKinds, tuples, no_kinds, more_kinds}
use Rattle.rel_value.specs.Views.{kinded}
use Rattle.rel_types.specs.Plans.{PlainNode, kind_of, is_plural, no_links, Nodes, no_nodes, more_nodes, first_kind, node_kinds, tuple_kind, any_plural}
use Rattle.rel_types.specs.Views.{listed}
use Rattle.std.proofs.Math.Seq.{drop-cons}
use Rattle.std.proofs.Math.Numerals.{add-one}
use Rattle.rel_grammar.specs.declared.casts.CastTo.{CastTo}
use Rattle.rel_types.specs.declared.error.TypeError.{TypeError}
use Rattle.rel_types.specs.Outcomes.{Checked, after, Fails}
use Rattle.rel_types.specs.Rows.{kind_list}
use Rattle.rel_types.specs.Typing.{typed, typed_links, typed_parts, typed_alike, typed_casts, one_more_cast, Casted, singular, one_more, one_more_like, one_more_link, Chained}

after_right : {A : Type 0} (x : Checked A) → after x Ok ≡ x
unfolding after
after_right (Ok a) = refl
after_right (Err e) = refl

after_assoc : {A B C : Type 0} (x : Checked A) (f : A → Checked B) (g : B → Checked C) → after (after x f) g ≡ after x (λ a. after (f a) g)
unfolding after
after_assoc (Ok a) f g = refl
after_assoc (Err e) f g = refl

-- step after step, from a state on
pub steps : {S X : Type 0} → (S → X → Checked S) → S → List X → Checked S
steps step s [] = Ok s
steps step s (x ∷ xs) = after (step s x) (λ next. steps step next xs)

-- after a step that gives the next state
pub steps_go : {S X : Type 0} (step : S → X → Checked S) (s next : S) (x : X) (xs : List X) (all : Checked S) → steps step s (x ∷ xs) ≡ all → step s x ≡ Ok next → steps step next xs ≡ all
unfolding steps after
steps_go step s next x xs all h e = sym (ap (λ y. after y (λ n. steps step n xs)) e) ∙ h

-- after a step with a fault
pub steps_fail : {S X : Type 0} (step : S → X → Checked S) (s : S) (x : X) (xs : List X) (all : Checked S) (e : TypeError) → steps step s (x ∷ xs) ≡ all → Fails (step s x) e → Fails all e
unfolding steps after Fails
steps_fail step s x xs all e h f = λ n. sym h ∙ ap (λ y. after y (λ k. steps step k xs)) (f n)

pub steps_end : {S X : Type 0} (step : S → X → Checked S) (s : S) (xs : List X) (all : Checked S) → xs ≡ [] → steps step s xs ≡ all → all ≡ Ok s
unfolding steps
steps_end step s xs all e h = sym h ∙ ap (steps step s) e

-- the element of this number, and those behind it
pub next_of : {X : Type 0} (xs : List X) (i : ℕ) (x : X) → i < length xs → x ≡ get_or xs i x → drop i xs ≡ x ∷ drop (i + 1) xs
next_of xs i x h e = rw (add-one, drop-cons xs i x) (ap (λ y. y ∷ drop (suc i) xs) (sym e))

pub casts_go : (s next : Casted) (x : CastTo) (xs : List CastTo) (all : Checked Casted) → typed_casts s (x ∷ xs) ≡ all → one_more_cast s x ≡ Ok next → typed_casts next xs ≡ all
unfolding after
casts_go s next x xs all h e = sym (ap (λ y. after y (λ n. typed_casts n xs)) e) ∙ h

pub casts_fail : (s : Casted) (x : CastTo) (xs : List CastTo) (all : Checked Casted) (e : TypeError) → typed_casts s (x ∷ xs) ≡ all → Fails (one_more_cast s x) e → Fails all e
unfolding after Fails
casts_fail s x xs all e h f = λ n. sym h ∙ ap (λ y. after y (λ k. typed_casts k xs)) (f n)

-- a state so far, or a fault, and the parts behind
parts_then : (read : Parts → Checked Nodes) (step : Nodes → Plain → Checked Nodes) → ((l : Parts) (x : Plain) → read (tree.more_parts l x) ≡ after (read l) (λ s. step s x)) → (l : Parts) (xs : List Plain) → read (trees.parted l xs) ≡ after (read l) (λ s. steps step s xs)
unfolding steps
parts_then read step each l [] = sym (after_right (read l))
parts_then read step each l (x ∷ xs) =
    parts_then read step each (tree.more_parts l x) xs
    ∙ ap (λ y. after y (λ s. steps step s xs)) (each l x)
    ∙ after_assoc (read l) (λ s. step s x) (λ s. steps step s xs)

-- how one part more of a tuple is read
abbrev pub part_step : Option PlainKind → Nodes → Plain → Checked Nodes
part_step i before t = after (typed i t) (one_more before)

-- how one part more of a collection is read
abbrev pub like_step : Option PlainKind → Nodes → Plain → Checked Nodes
like_step i before t = after (typed i t) (one_more_like before (span_of_tree t))

-- how one operand more of a chain is read
abbrev pub link_step : Option PlainKind → Chained → trees.PlainLink → Checked Chained
link_step i before x = after (singular x.2 (typed i x.2)) (one_more_link before x.0 x.1 (span_of_tree x.2))

after_ok : {A B : Type 0} (a : A) (f : A → Checked B) → after (Ok a) f ≡ f a
unfolding after
after_ok a f = refl

pub parts_steps : (i : Option PlainKind) (xs : List Plain) → typed_parts i (trees.parted tree.no_parts xs) ≡ steps (part_step i) no_nodes xs
parts_steps i xs = parts_then (typed_parts i) (part_step i) (λ l x. refl) tree.no_parts xs ∙ after_ok no_nodes (λ s. steps (part_step i) s xs)

pub alike_steps : (i : Option PlainKind) (xs : List Plain) → typed_alike i (trees.parted tree.no_parts xs) ≡ steps (like_step i) no_nodes xs
alike_steps i xs = parts_then (typed_alike i) (like_step i) (λ l x. refl) tree.no_parts xs ∙ after_ok no_nodes (λ s. steps (like_step i) s xs)

links_then : (i : Option PlainKind) (first : PlainKind) (l : Linked) (xs : List trees.PlainLink) → typed_links i first (trees.linked l xs) ≡ after (typed_links i first l) (λ s. steps (link_step i) s xs)
unfolding steps
links_then i first l [] = sym (after_right (typed_links i first l))
links_then i first l (x ∷ xs) =
    links_then i first (tree.more_links l x.0 x.1 x.2) xs
    ∙ after_assoc (typed_links i first l) (λ s. link_step i s x) (λ s. steps (link_step i) s xs)

pub links_steps : (i : Option PlainKind) (first : PlainKind) (xs : List trees.PlainLink) → typed_links i first (trees.linked tree.no_links xs) ≡ steps (link_step i) (record { kind = first; links = no_links }) xs
links_steps i first xs = links_then i first tree.no_links xs ∙ after_ok (record { kind = first; links = no_links }) (λ s. steps (link_step i) s xs)

-- the kinds of a list, from the first
pub kinds_listed : (ks : PlainKinds) (xs : List PlainKind) → kind_list (kinded ks xs) ≡ kind_list ks ++ xs
kinds_listed ks [] = sym (append-nil (kind_list ks))
kinds_listed ks (x ∷ xs) = kinds_listed (more_kinds ks x) xs ∙ append_assoc (kind_list ks) (x ∷ []) xs

first_listed : (l : Nodes) (n : PlainNode) (xs : List PlainNode) → first_kind (listed (more_nodes l n) xs) ≡ first_kind (more_nodes l n)
first_listed l n [] = refl
first_listed l n (x ∷ xs) = first_listed (more_nodes l n) x xs

pub first_of_list : (n : PlainNode) (xs : List PlainNode) → first_kind (listed no_nodes (n ∷ xs)) ≡ Some (kind_of n)
first_of_list n xs = first_listed no_nodes n xs

or_false : (a : Bool) → a || false ≡ a
or_false true = refl
or_false false = refl

or_assoc : (a b c : Bool) → (a || b) || c ≡ a || (b || c)
or_assoc true b c = refl
or_assoc false b c = refl

any_listed : (l : Nodes) (xs : List PlainNode) → any_plural (listed l xs) ≡ any_plural l || list_any is_plural xs
any_listed l [] = sym (or_false (any_plural l))
any_listed l (x ∷ xs) = any_listed (more_nodes l x) xs ∙ or_assoc (any_plural l) (is_plural x) (list_any is_plural xs)

pub any_of_list : (xs : List PlainNode) → any_plural (listed no_nodes xs) ≡ list_any is_plural xs
any_of_list xs = any_listed no_nodes xs

node_kinds_listed : (l : Nodes) (xs : List PlainNode) → node_kinds (listed l xs) ≡ kinded (node_kinds l) (map kind_of xs)
node_kinds_listed l [] = refl
node_kinds_listed l (x ∷ xs) = node_kinds_listed (more_nodes l x) xs

tuple_listed : (l : Nodes) (n m : PlainNode) (xs : List PlainNode) → tuple_kind (listed (more_nodes (more_nodes l n) m) xs) ≡ Some (tuples (node_kinds (listed (more_nodes (more_nodes l n) m) xs)))
tuple_listed l n m [] = refl
tuple_listed l n m (x ∷ xs) = tuple_listed (more_nodes l n) m x xs

-- the kind of a tuple of two parts and more
pub tuple_of_list : (n m : PlainNode) (xs : List PlainNode) → tuple_kind (listed no_nodes (n ∷ m ∷ xs)) ≡ Some (tuples (kinded (more_kinds (more_kinds no_kinds (kind_of n)) (kind_of m)) (map kind_of xs)))
tuple_of_list n m xs = tuple_listed no_nodes n m xs ∙ ap (λ ks. Some (tuples ks)) (node_kinds_listed (more_nodes (more_nodes no_nodes n) m) xs)

-- before the element of this number
pub steps_at : {S X Y : Type 0} (step : S → Y → Checked S) (f : X → Y) (s : S) (xs : List X) (i : ℕ) (x : X) (all : Checked S) → i < length xs → x ≡ get_or xs i x → steps step s (map f (drop i xs)) ≡ all → steps step s (f x ∷ map f (drop (i + 1) xs)) ≡ all
steps_at step f s xs i x all h e inv = ap (λ ys. steps step s (map f ys)) (sym (next_of xs i x h e)) ∙ inv

pub steps_begin : {S X Y : Type 0} (step : S → Y → Checked S) (f : X → Y) (s z : S) (xs ys : List X) (all : Checked S) → s ≡ z → xs ≡ ys → steps step z (map f ys) ≡ all → steps step s (map f xs) ≡ all
steps_begin step f s z xs ys all e h i = ap (λ w. steps step w (map f xs)) e ∙ ap (λ w. steps step z (map f w)) h ∙ i

-- behind the last element
pub steps_over : {S X Y : Type 0} (step : S → Y → Checked S) (f : X → Y) (s : S) (xs : List X) (i : ℕ) (all : Checked S) → (i < length xs → ⊥) → steps step s (map f (drop i xs)) ≡ all → all ≡ Ok s
steps_over step f s xs i all h e = let le : length xs ≤ i = omega arith in steps_end step s (map f (drop i xs)) all (ap (map f) (drop_all i xs le)) e
