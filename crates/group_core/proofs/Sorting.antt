-- Lists in order of a name: what is found in them, as one is put or taken out.
use Rattle.std.proofs.Common.{ℕ, zero, suc, ◌≡◌, ◌≢◌, ◌+◌, ◌<◌, ◌≤◌, Bool, true, false, cond, List, [], ◌∷◌, ◌++◌, map, length, get_or, take, drop, set, filter, find, Option, Some, None, refl, sym, ap, subst, ◌∙◌, arith, bytes_eq, length-append}
use Rattle.std.specs.Prelude.{Result, Ok, Err, IsOk, OnOk, is_ok}
use Rattle.std.specs.declared.cmp.Ordering.{Ordering}
use Rattle.std.specs.declared.cmp.Ordering.TheVariants.{Less, Equal, Greater}
use Rattle.std.specs.Option.{option_or}
use Rattle.std.specs.Ordering.{nat_cmp, is_lt, ordering_reverse}
use Rattle.std.specs.Cmp.Lexicographic.{slice_cmp, nat_list_cmp_total}
use Rattle.std.specs.List.{IsDistinct, AllByRecursion}
use Rattle.std.specs.List.Sorted.{IsStrictlySortedBy, IsBinarySearchResult, IsSearchInRange}
use Rattle.std.proofs.lemmas.Bool.{cond-true, cond-false, true≢false}
use Rattle.std.proofs.lemmas.List.{take-set, drop-set-lt, length-set, get_or-set_same, take-append-drop}
use Rattle.std.proofs.Math.Seq.{drop-cons}
use Rattle.std.proofs.lemmas.List.Folds.{find-append}
use Rattle.std.proofs.lemmas.Map.Lookups.{exact_bytes}
use Rattle.std.proofs.lemmas.Slice.Eq.{bytes_eq-Decides}
use Rattle.bf_world.specs.Maps.{byte_order}
use Rattle.bf_world.proofs.MapLemmas.{order-same}
use Rattle.line_forms.proofs.Sorted.{has_place, sorted_with}
use Rattle.group_core.specs.Lists.{Ascends, HasPlace, after, before, one_of, with_all, with_one, without}

-- ---- names that are the same
pub same_name : (a b : List ℕ) → bytes_eq a b ≡ true → a ≡ b
same_name a b e = (bytes_eq-Decides a b).0 e

pub name_same : (a b : List ℕ) → a ≡ b → bytes_eq a b ≡ true
name_same a b e = (bytes_eq-Decides a b).1 e

pub no_name : (a b : List ℕ) → bytes_eq a b ≡ false → a ≢ b
no_name a b e is = true≢false (sym (name_same a b is) ∙ e)

-- ---- what is said of an answer without an error
pub if_ok : {T E X : Type 0} (r : Result T E) (a b : X) → IsOk r → cond (is_ok r) a b ≡ a
if_ok (Ok x) a b ok = refl
if_ok (Err e) a b ok = absurd (true≢false (sym ok))

pub on_ok : {T E : Type 0} (r : Result T E) (P : Type 0) → IsOk r → OnOk r P → P
on_ok (Ok x) P ok h = h
on_ok (Err e) P ok h = absurd (true≢false (sym ok))

module _ {X : Type 0} (name_of : X → List ℕ) where
  -- ---- places
  -- a search by names ends at the place
  pub searched : (xs : List X) (name : List ℕ) (answer : Result ℕ ℕ) → Ascends name_of xs → IsSearchInRange answer (length xs)
      → IsBinarySearchResult (λ x. slice_cmp nat_cmp (name_of x) name) xs answer → HasPlace name_of xs name answer
  searched xs name (Ok place) sorted inside found =
      let h = has_place nat_list_cmp_total (λ x y e. exact_bytes x y e) name_of xs sorted name (Ok place) inside found in
      (h.0, h.1, h.2, λ d. exact_bytes (name_of (get_or xs place d)) name (found d))
  searched xs name (Err place) sorted inside found =
      has_place nat_list_cmp_total (λ x y e. exact_bytes x y e) name_of xs sorted name (Err place) inside found

  -- a list around an element
  around : (xs : List X) (i : ℕ) (x : X) → i < length xs → x ≡ get_or xs i x → xs ≡ take i xs ++ x ∷ drop (suc i) xs
  around xs i x inside is =
      sym (take-append-drop i xs) ∙ ap (λ l. take i xs ++ l) (drop-cons xs i x inside ∙ ap (λ y. y ∷ drop (suc i) xs) (sym is))

  -- an element is written at its place
  pub written : (xs : List X) (name : List ℕ) (place : ℕ) (x : X) → HasPlace name_of xs name (Ok place) → name ≡ name_of x → set xs place x ≡ with_one name_of x xs
  written xs name place x here is =
      let next : place + 1 ≡ suc place = omega arith in
      let long : length (set xs place x) ≡ length xs = length-set xs place x in
      around (set xs place x) place x (omega (arith, here.0)) (sym (get_or-set_same xs place x x here.0))
      ∙ (λ t. take-set xs place x t ++ x ∷ drop-set-lt (suc place) xs place x (omega arith) t)
      ∙ (λ t. (here.1 ∙ ap (λ n. before name_of n xs) is) t ++ x ∷ (ap (λ n. drop n xs) (sym next) ∙ here.2 ∙ ap (λ n. after name_of n xs) is) t)

  -- it is put at its place
  pub put_in : (xs : List X) (name : List ℕ) (place : ℕ) (x : X) → HasPlace name_of xs name (Err place) → name ≡ name_of x → take place xs ++ x ∷ drop place xs ≡ with_one name_of x xs
  put_in xs name place x here is =
      λ t. (here.1 ∙ ap (λ n. before name_of n xs) is) t ++ x ∷ (here.2 ∙ ap (λ n. after name_of n xs) is) t

  -- the one at its place is it
  pub stands : (xs : List X) (name : List ℕ) (place : ℕ) (d : X) → HasPlace name_of xs name (Ok place) → xs ≡ before name_of name xs ++ get_or xs place d ∷ after name_of name xs
  stands xs name place d here =
      let next : place + 1 ≡ suc place = omega arith in
      let x = get_or xs place d in
      around xs place x here.0 (got xs place d here.0)
      ∙ (λ t. here.1 t ++ x ∷ (ap (λ n. drop n xs) (sym next) ∙ here.2) t)
    where
      got : (xs : List X) (i : ℕ) (d : X) → i < length xs → get_or xs i d ≡ get_or xs i (get_or xs i d)
      got [] i d inside = absurd (omega (arith, inside))
      got (y ∷ ys) zero d inside = refl
      got (y ∷ ys) (suc i) d inside = got ys i d (omega arith)

  pub missing : (xs : List X) (name : List ℕ) (place : ℕ) → HasPlace name_of xs name (Err place) → xs ≡ before name_of name xs ++ after name_of name xs
  missing xs name place here = sym (take-append-drop place xs) ∙ (λ t. here.1 t ++ here.2 t)

  -- ---- what a filter leaves
  -- of elements that all fail a test none is found
  find_none : (p q : X → Bool) (xs : List X) → ((x : X) → p x ≡ true → q x ≡ false) → find q (filter p xs) ≡ None
  find_none p q [] apart = refl
  find_none p q (x ∷ xs) apart = by (p x) refl (find_none p q xs apart)
    where
      by : (b : Bool) → p x ≡ b → find q (filter p xs) ≡ None → find q (cond b (x ∷ filter p xs) (filter p xs)) ≡ None
      by true is rest = cond-false (q x) (Some x) (find q (filter p xs)) (apart x is) ∙ rest
      by false is rest = rest

  -- where all that are looked for stay, the same is found
  find_same : (p q : X → Bool) (xs : List X) → ((x : X) → q x ≡ true → p x ≡ true) → find q (filter p xs) ≡ find q xs
  find_same p q [] stay = refl
  find_same p q (x ∷ xs) stay = by (p x) (q x) refl refl (find_same p q xs stay)
    where
      by : (b c : Bool) → p x ≡ b → q x ≡ c → find q (filter p xs) ≡ find q xs → find q (cond b (x ∷ filter p xs) (filter p xs)) ≡ cond (q x) (Some x) (find q xs)
      by true c is has rest = ap (λ l. cond (q x) (Some x) l) rest
      by false true is has rest = absurd (true≢false (sym (stay x has) ∙ is))
      by false false is has rest = rest ∙ sym (cond-false (q x) (Some x) (find q xs) has)

  -- the order of an element of a name is that of the name
  named_order : (x : X) (name key : List ℕ) (r : Ordering) → bytes_eq (name_of x) name ≡ true → byte_order name key ≡ r → byte_order (name_of x) key ≡ r
  named_order x name key r is e = ap (λ n. byte_order n key) (same_name (name_of x) name is) ∙ e

  turned : (a b : List ℕ) (r : Ordering) → byte_order a b ≡ r → byte_order b a ≡ ordering_reverse r
  turned a b r e = nat_list_cmp_total.antisymm b a ∙ ap ordering_reverse e

  -- ---- found in a list with one put
  pub found_with : (x : X) (xs : List X) (name : List ℕ) → one_of name_of name (with_one name_of x xs) ≡ cond (bytes_eq (name_of x) name) (Some x) (one_of name_of name xs)
  found_with x xs name = by (bytes_eq (name_of x) name) refl
    where
      key : List ℕ
      key = name_of x

      is_named : X → Bool
      is_named y = bytes_eq (name_of y) name

      whole : find is_named (with_one name_of x xs) ≡ option_or (find is_named (before name_of key xs)) (find is_named (x ∷ after name_of key xs))
      whole = find-append is_named (before name_of key xs) (x ∷ after name_of key xs)

      own : bytes_eq key name ≡ true → find is_named (before name_of key xs) ≡ None
      own is = find_none (λ y. is_lt (byte_order (name_of y) key)) is_named xs (λ y less. apart y less (is_named y) refl)
        where
          apart : (y : X) → is_lt (byte_order (name_of y) key) ≡ true → (b : Bool) → is_named y ≡ b → is_named y ≡ false
          apart y less false e = e
          apart y less true e =
              let same : name_of y ≡ key = same_name (name_of y) name e ∙ sym (same_name key name is) in
              absurd (true≢false (sym less ∙ ap is_lt (ap (λ n. byte_order n key) same ∙ order-same key)))

      other : (r : Ordering) → byte_order name key ≡ r → bytes_eq key name ≡ false
          → option_or (find is_named (before name_of key xs)) (find is_named (after name_of key xs)) ≡ find is_named xs
      other Less e differs =
          let front = find_same (λ y. is_lt (byte_order (name_of y) key)) is_named xs (λ y is. ap is_lt (named_order y name key Less is e)) in
          let back = find_none (λ y. is_lt (byte_order key (name_of y))) is_named xs (λ y less. above y less (is_named y) refl) in
          (λ t. option_or (front t) (back t)) ∙ right (find is_named xs)
        where
          above : (y : X) → is_lt (byte_order key (name_of y)) ≡ true → (b : Bool) → is_named y ≡ b → is_named y ≡ false
          above y less false is = is
          above y less true is = absurd (true≢false (sym less ∙ ap is_lt (turned (name_of y) key Less (named_order y name key Less is e))))

          right : (o : Option X) → option_or o None ≡ o
          right None = refl
          right (Some y) = refl
      other Greater e differs =
          let front = find_none (λ y. is_lt (byte_order (name_of y) key)) is_named xs (λ y less. below y less (is_named y) refl) in
          let back = find_same (λ y. is_lt (byte_order key (name_of y))) is_named xs (λ y is. ap is_lt (turned (name_of y) key Greater (named_order y name key Greater is e))) in
          (λ t. option_or (front t) (back t))
        where
          below : (y : X) → is_lt (byte_order (name_of y) key) ≡ true → (b : Bool) → is_named y ≡ b → is_named y ≡ false
          below y less false is = is
          below y less true is = absurd (true≢false (sym less ∙ ap is_lt (named_order y name key Greater is e)))
      other Equal e differs = absurd (no_name key name differs (sym (exact_bytes name key e)))

      by : (b : Bool) → bytes_eq key name ≡ b → find is_named (with_one name_of x xs) ≡ cond (bytes_eq key name) (Some x) (find is_named xs)
      by true is =
          whole ∙ (λ t. option_or (own is t) (cond-true (bytes_eq key name) (Some x) (find is_named (after name_of key xs)) is t))
          ∙ sym (cond-true (bytes_eq key name) (Some x) (find is_named xs) is)
      by false is =
          whole ∙ ap (λ l. option_or (find is_named (before name_of key xs)) l) (cond-false (bytes_eq key name) (Some x) (find is_named (after name_of key xs)) is)
          ∙ other (byte_order name key) refl is ∙ sym (cond-false (bytes_eq key name) (Some x) (find is_named xs) is)

  -- ---- found at its place
  before_none : (name : List ℕ) (xs : List X) → one_of name_of name (before name_of name xs) ≡ None
  before_none name xs = find_none (λ y. is_lt (byte_order (name_of y) name)) (λ y. bytes_eq (name_of y) name) xs (λ y less. apart y less (bytes_eq (name_of y) name) refl)
    where
      apart : (y : X) → is_lt (byte_order (name_of y) name) ≡ true → (b : Bool) → bytes_eq (name_of y) name ≡ b → bytes_eq (name_of y) name ≡ false
      apart y less false e = e
      apart y less true e = absurd (true≢false (sym less ∙ ap is_lt (ap (λ n. byte_order n name) (same_name (name_of y) name e) ∙ order-same name)))

  after_none : (name : List ℕ) (xs : List X) → one_of name_of name (after name_of name xs) ≡ None
  after_none name xs = find_none (λ y. is_lt (byte_order name (name_of y))) (λ y. bytes_eq (name_of y) name) xs (λ y less. apart y less (bytes_eq (name_of y) name) refl)
    where
      apart : (y : X) → is_lt (byte_order name (name_of y)) ≡ true → (b : Bool) → bytes_eq (name_of y) name ≡ b → bytes_eq (name_of y) name ≡ false
      apart y less false e = e
      apart y less true e = absurd (true≢false (sym less ∙ ap is_lt (ap (λ n. byte_order name n) (same_name (name_of y) name e) ∙ order-same name)))

  pub found_there : (xs : List X) (name : List ℕ) (place : ℕ) (d : X) → HasPlace name_of xs name (Ok place) → one_of name_of name xs ≡ Some (get_or xs place d)
  found_there xs name place d here =
      let is_named : X → Bool = λ y. bytes_eq (name_of y) name in
      let x = get_or xs place d in
      ap (find is_named) (stands xs name place d here) ∙ find-append is_named (before name_of name xs) (x ∷ after name_of name xs)
      ∙ ap (λ o. option_or o (find is_named (x ∷ after name_of name xs))) (before_none name xs)
      ∙ cond-true (bytes_eq (name_of x) name) (Some x) (find is_named (after name_of name xs)) (name_same (name_of x) name (here.3 d))

  pub not_there : (xs : List X) (name : List ℕ) (place : ℕ) → HasPlace name_of xs name (Err place) → one_of name_of name xs ≡ None
  not_there xs name place here =
      let is_named : X → Bool = λ y. bytes_eq (name_of y) name in
      ap (find is_named) (missing xs name place here) ∙ find-append is_named (before name_of name xs) (after name_of name xs)
      ∙ (λ t. option_or (before_none name xs t) (after_none name xs t))

  -- where the element is at its place already, the list with it is the same
  pub with_same : (xs : List X) (name : List ℕ) (place : ℕ) (x : X) → HasPlace name_of xs name (Ok place) → name ≡ name_of x → x ≡ get_or xs place x → xs ≡ with_one name_of x xs
  with_same xs name place x here is same =
      stands xs name place x here ∙ (λ t. before name_of (is t) xs ++ sym same t ∷ after name_of (is t) xs)

  -- and where none of the name is there, the list without it is
  pub without_same : (xs : List X) (name : List ℕ) (place : ℕ) → HasPlace name_of xs name (Err place) → xs ≡ without name_of name xs
  without_same xs name place here = missing xs name place here

  -- one element more makes a list one longer at most
  parts_le : (name : List ℕ) (xs : List X) → length (before name_of name xs) + length (after name_of name xs) ≤ length xs
  parts_le name [] = omega arith
  parts_le name (x ∷ xs) = by (byte_order (name_of x) name) refl (parts_le name xs)
    where
      front : List X
      front = before name_of name xs

      back : List X
      back = after name_of name xs

      both : (p q : Bool) → (p ≡ true → q ≡ true → ⊥) → length front + length back ≤ length xs → length (cond p (x ∷ front) front) + length (cond q (x ∷ back) back) ≤ suc (length xs)
      both true true not_both le = absurd (not_both refl refl)
      both true false not_both le = omega (arith, le)
      both false true not_both le = omega (arith, le)
      both false false not_both le = omega (arith, le)

      by : (r : Ordering) → byte_order (name_of x) name ≡ r → length front + length back ≤ length xs
          → length (cond (is_lt (byte_order (name_of x) name)) (x ∷ front) front) + length (cond (is_lt (byte_order name (name_of x))) (x ∷ back) back) ≤ suc (length xs)
      by Less e le =
          both (is_lt (byte_order (name_of x) name)) (is_lt (byte_order name (name_of x))) (λ p q. true≢false (sym q ∙ ap is_lt (turned (name_of x) name Less e))) le
      by Equal e le =
          both (is_lt (byte_order (name_of x) name)) (is_lt (byte_order name (name_of x))) (λ p q. true≢false (sym p ∙ ap is_lt e)) le
      by Greater e le =
          both (is_lt (byte_order (name_of x) name)) (is_lt (byte_order name (name_of x))) (λ p q. true≢false (sym p ∙ ap is_lt e)) le

  pub longer : (x : X) (xs : List X) → length (with_one name_of x xs) ≤ length xs + 1
  longer x xs =
      let count = length-append (before name_of (name_of x) xs) (x ∷ after name_of (name_of x) xs) in
      let parts = parts_le (name_of x) xs in
      omega arith

  -- an empty list is in order
  pub ascends_none : Ascends name_of []
  unfolding IsStrictlySortedBy
  ascends_none = tt

  -- the list with one is in order
  pub ascends_with : (x : X) (xs : List X) → Ascends name_of xs → Ascends name_of (with_one name_of x xs)
  ascends_with x xs sorted = sorted_with nat_list_cmp_total name_of x xs sorted

  -- with several
  pub ascends_all : (ys xs : List X) → Ascends name_of xs → Ascends name_of (with_all name_of ys xs)
  ascends_all [] xs sorted = sorted
  ascends_all (y ∷ ys) xs sorted = ascends_all ys (with_one name_of y xs) (ascends_with y xs sorted)

  -- one that isn't among these isn't found
  pub not_among : (name : List ℕ) (ys : List X) → AllByRecursion (λ other. bytes_eq name other ≡ false) (map name_of ys) → one_of name_of name ys ≡ None
  not_among name [] apart = refl
  not_among name (y ∷ ys) apart =
      cond-false (bytes_eq (name_of y) name) (Some y) (one_of name_of name ys) (swapped (bytes_eq (name_of y) name) refl) ∙ not_among name ys apart.1
    where
      swapped : (b : Bool) → bytes_eq (name_of y) name ≡ b → bytes_eq (name_of y) name ≡ false
      swapped false e = e
      swapped true e = absurd (true≢false (sym (name_same name (name_of y) (sym (same_name (name_of y) name e))) ∙ apart.0))

  -- of several of distinct names, each is found, and what was there of other names
  pub found_all : (ys xs : List X) (name : List ℕ) → IsDistinct bytes_eq (map name_of ys) → one_of name_of name (with_all name_of ys xs) ≡ option_or (one_of name_of name ys) (one_of name_of name xs)
  unfolding IsDistinct
  found_all [] xs name distinct = refl
  found_all (y ∷ ys) xs name distinct =
      found_all ys (with_one name_of y xs) name distinct.1 ∙ ap (λ o. option_or (one_of name_of name ys) o) (found_with y xs name) ∙ by (bytes_eq (name_of y) name) refl
    where
      by : (b : Bool) → bytes_eq (name_of y) name ≡ b → option_or (one_of name_of name ys) (cond b (Some y) (one_of name_of name xs)) ≡ option_or (cond b (Some y) (one_of name_of name ys)) (one_of name_of name xs)
      by false is = refl
      by true is =
          let P : List ℕ → Type 0 = λ n. AllByRecursion (λ other. bytes_eq n other ≡ false) (map name_of ys) in
          ap (λ o. option_or o (Some y)) (not_among name ys (subst P (same_name (name_of y) name is) distinct.0))
