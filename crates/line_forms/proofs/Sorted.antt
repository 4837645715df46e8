-- Lists in strictly ascending order of a key, and the place of a key among theirs. Other crates may cite these lemmas.
use Rattle.std.specs.Prelude.{◌≡◌, ℕ, zero, suc, ◌<◌, ◌≤◌, ◌+◌, Bool, true, false, cond, List, [], ◌∷◌, ◌++◌, map, filter, length, take, drop, Result, Ok, Err}
use Rattle.std.specs.declared.cmp.Ordering.{Ordering}
use Rattle.std.specs.declared.cmp.Ordering.TheVariants.{Less, Equal, Greater}
use Rattle.std.specs.Ordering.{is_lt, ordering_reverse, ordering_index}
use Rattle.std.specs.List.{AllByRecursion, AllWithin, Contains}
use Rattle.std.specs.List.Sorted.{IsStrictlySortedBy, IsNonDecreasingBy, IsBinarySearchResult, IsSearchInRange}
use Rattle.std.specs.Cmp.{IsTotalOrder}
use Rattle.std.proofs.Common.{refl, sym, ap, ◌∙◌, subst, arith, inl, inr, get_or}
use Rattle.std.proofs.lemmas.Bool.{cases_lt, cases_eq}
use Rattle.std.proofs.lemmas.List.{map-append, get_or-map, length-map, get_or_default}
use Rattle.std.proofs.lemmas.Cmp.{tied_itself}
use Rattle.std.proofs.lemmas.Map.Keys.{Less-from_sorted}

-- the elements whose key comes before this one, and those whose key comes after it
abbrev pub before_by : {X K : Type 0} → (K → K → Ordering) → (X → K) → K → List X → List X
before_by R f key xs = filter (λ x. is_lt (R (f x) key)) xs

abbrev pub after_by : {X K : Type 0} → (K → K → Ordering) → (X → K) → K → List X → List X
after_by R f key xs = filter (λ x. is_lt (R key (f x))) xs

-- ---- a filter whose test changes once

pub filter-take : {X : Type 0} (p : X → Bool) (xs : List X) (i : ℕ) → AllWithin (λ x. p x ≡ true) xs 0 i → AllWithin (λ x. p x ≡ false) xs i (length xs) → i ≤ length xs → filter p xs ≡ take i xs
filter-take p [] zero pass fail fits = refl
filter-take p [] (suc i) pass fail fits = absurd (omega arith)
filter-take p (x ∷ xs) zero pass fail fits =
    subst (λ b. cond b (x ∷ filter p xs) (filter p xs) ≡ []) (sym (fail 0 x (omega arith) (omega arith)))
    (filter-take p xs zero (λ k d low high. absurd (omega arith)) (λ k d low high. fail (suc k) d (omega arith) (omega arith)) (omega arith))
filter-take p (x ∷ xs) (suc i) pass fail fits =
    subst (λ b. cond b (x ∷ filter p xs) (filter p xs) ≡ x ∷ take i xs) (sym (pass 0 x (omega arith) (omega arith)))
    (ap (λ l. x ∷ l) (filter-take p xs i (λ k d low high. pass (suc k) d (omega arith) (omega arith)) (λ k d low high. fail (suc k) d (omega arith) (omega arith)) (omega arith)))

pub filter-drop : {X : Type 0} (p : X → Bool) (xs : List X) (i : ℕ) → AllWithin (λ x. p x ≡ false) xs 0 i → AllWithin (λ x. p x ≡ true) xs i (length xs) → i ≤ length xs → filter p xs ≡ drop i xs
filter-drop p [] zero fail pass fits = refl
filter-drop p [] (suc i) fail pass fits = absurd (omega arith)
filter-drop p (x ∷ xs) zero fail pass fits =
    subst (λ b. cond b (x ∷ filter p xs) (filter p xs) ≡ x ∷ xs) (sym (pass 0 x (omega arith) (omega arith)))
    (ap (λ l. x ∷ l) (filter-drop p xs zero (λ k d low high. absurd (omega arith)) (λ k d low high. pass (suc k) d (omega arith) (omega arith)) (omega arith)))
filter-drop p (x ∷ xs) (suc i) fail pass fits =
    subst (λ b. cond b (x ∷ filter p xs) (filter p xs) ≡ drop i xs) (sym (fail 0 x (omega arith) (omega arith)))
    (filter-drop p xs i (λ k d low high. fail (suc k) d (omega arith) (omega arith)) (λ k d low high. pass (suc k) d (omega arith) (omega arith)) (omega arith))

-- ---- around a key

module _ {K : Type 0} {R : K → K → Ordering} (o : IsTotalOrder R) where
  below_all : (k x : K) (ys : List K) → R x k ≡ Less → AllByRecursion (λ y. R k y ≡ Less) ys → AllByRecursion (λ y. R x y ≡ Less) ys
  below_all k x [] h hs = tt
  below_all k x (y ∷ ys) h hs = (o.trans x k y h hs.0, below_all k x ys h hs.1)

  joined : (P : K → Type 0) (xs : List K) (k : K) (ys : List K) → AllByRecursion P xs → P k → AllByRecursion P ys → AllByRecursion P (xs ++ k ∷ ys)
  joined P [] k ys a b c = (b, c)
  joined P (x ∷ xs) k ys a b c = (a.0, joined P xs k ys a.1 b c)

  -- keys below k, k and keys above it
  pub sorted_around : (xs : List K) (k : K) (ys : List K) → IsStrictlySortedBy R xs → AllByRecursion (λ x. R x k ≡ Less) xs
      → AllByRecursion (λ y. R k y ≡ Less) ys → IsStrictlySortedBy R ys → IsStrictlySortedBy R (xs ++ k ∷ ys)
  unfolding IsStrictlySortedBy
  sorted_around [] k ys s below above t = (above, t)
  sorted_around (x ∷ xs) k ys s below above t =
      (joined (λ y. R x y ≡ Less) xs k ys s.0 below.0 (below_all k x ys below.0 above), sorted_around xs k ys s.1 below.1 above t)

module _ {X K : Type 0} (R : K → K → Ordering) (f : X → K) where
  all_filtered : (P : K → Type 0) (p : X → Bool) (xs : List X) → AllByRecursion P (map f xs) → AllByRecursion P (map f (filter p xs))
  all_filtered P p [] h = tt
  all_filtered P p (x ∷ xs) h =
      elim (p x) as (λ b. AllByRecursion P (map f (cond b (x ∷ filter p xs) (filter p xs)))) [
        | true ↦ (h.0, all_filtered P p xs h.1)
        | false ↦ all_filtered P p xs h.1
      ]

  pub sorted_filtered : (p : X → Bool) (xs : List X) → IsStrictlySortedBy R (map f xs) → IsStrictlySortedBy R (map f (filter p xs))
  unfolding IsStrictlySortedBy
  sorted_filtered p [] h = tt
  sorted_filtered p (x ∷ xs) h =
      elim (p x) as (λ b. IsStrictlySortedBy R (map f (cond b (x ∷ filter p xs) (filter p xs)))) [
        | true ↦ (all_filtered (λ y. R (f x) y ≡ Less) p xs h.0, sorted_filtered p xs h.1)
        | false ↦ sorted_filtered p xs h.1
      ]

  pub before_below : (key : K) (xs : List X) → AllByRecursion (λ k. R k key ≡ Less) (map f (before_by R f key xs))
  before_below key [] = tt
  before_below key (x ∷ xs) =
      elim (R (f x) key) as (λ r. R (f x) key ≡ r → AllByRecursion (λ k. R k key ≡ Less) (map f (cond (is_lt r) (x ∷ before_by R f key xs) (before_by R f key xs)))) [
        | Less ↦ λ e. (e, before_below key xs)
        | Equal ↦ λ e. before_below key xs
        | Greater ↦ λ e. before_below key xs
      ] refl

  pub after_above : (key : K) (xs : List X) → AllByRecursion (λ k. R key k ≡ Less) (map f (after_by R f key xs))
  after_above key [] = tt
  after_above key (x ∷ xs) =
      elim (R key (f x)) as (λ r. R key (f x) ≡ r → AllByRecursion (λ k. R key k ≡ Less) (map f (cond (is_lt r) (x ∷ after_by R f key xs) (after_by R f key xs)))) [
        | Less ↦ λ e. (e, after_above key xs)
        | Equal ↦ λ e. after_above key xs
        | Greater ↦ λ e. after_above key xs
      ] refl

-- the element at its place keeps the order
pub sorted_with : {X K : Type 0} {R : K → K → Ordering} (o : IsTotalOrder R) (f : X → K) (x : X) (xs : List X) → IsStrictlySortedBy R (map f xs)
    → IsStrictlySortedBy R (map f (before_by R f (f x) xs ++ x ∷ after_by R f (f x) xs))
sorted_with {R} o f x xs sorted =
    subst (IsStrictlySortedBy R) (sym (map-append f (before_by R f (f x) xs) (x ∷ after_by R f (f x) xs)))
    (sorted_around o (map f (before_by R f (f x) xs)) (f x) (map f (after_by R f (f x) xs))
    (sorted_filtered R f (λ y. is_lt (R (f y) (f x))) xs sorted) (before_below R f (f x) xs) (after_above R f (f x) xs)
    (sorted_filtered R f (λ y. is_lt (R (f x) (f y))) xs sorted))

-- ---- the place that a binary search finds

-- the place of the element of this key, or the one where it would stand
abbrev pub HasPlaceBy : {X K : Type 0} → (K → K → Ordering) → (X → K) → K → List X → Result ℕ ℕ → Type 0
HasPlaceBy R f key xs (Ok i) = (i < length xs) × (take i xs ≡ before_by R f key xs) × (drop (i + 1) xs ≡ after_by R f key xs)
HasPlaceBy R f key xs (Err i) = (i ≤ length xs) × (take i xs ≡ before_by R f key xs) × (drop i xs ≡ after_by R f key xs)

index_le_2 : (r : Ordering) → ordering_index r ≤ 2
index_le_2 Less = omega arith
index_le_2 Equal = omega arith
index_le_2 Greater = omega arith

module _ {X K : Type 0} {R : K → K → Ordering} (o : IsTotalOrder R) (same : (x y : K) → R x y ≡ Equal → x ≡ y) (f : X → K) (xs : List X) (sorted : IsStrictlySortedBy R (map f xs)) (key : K) where
  ascends : (i j : ℕ) (d : X) → i < j → j < length xs → R (f (get_or xs i d)) (f (get_or xs j d)) ≡ Less
  ascends i j d lt inside =
      let count : length (map f xs) ≡ length xs = length-map xs f in
      (λ t. R (sym (get_or-map f xs i d (f d) (omega arith)) t) (sym (get_or-map f xs j d (f d) inside) t))
      ∙ Less-from_sorted R (map f xs) i j (f d) sorted lt (omega arith)

  turned : (k : K) → R key k ≡ ordering_reverse (R k key)
  turned k = o.antisymm key k

  rises : IsNonDecreasingBy (λ x. ordering_index (R (f x) key)) xs
  rises i j d le inside =
      elim (cases_eq i j) [
        | inl e ↦ rw e (omega arith)
        | inr apart ↦ later (R (f (get_or xs j d)) key) refl (ascends i j d (omega arith) inside)
      ]
    where
      later : (r : Ordering) → R (f (get_or xs j d)) key ≡ r → R (f (get_or xs i d)) (f (get_or xs j d)) ≡ Less
          → ordering_index (R (f (get_or xs i d)) key) ≤ ordering_index (R (f (get_or xs j d)) key)
      later Less e less = rw (o.trans _ _ _ less e, e) (omega arith)
      later Equal e less = rw (subst (λ k. R (f (get_or xs i d)) k ≡ Less) (same _ _ e) less) (omega arith)
      later Greater e less = rw e (index_le_2 _)

  pub has_place : (r : Result ℕ ℕ) → IsSearchInRange r (length xs) → IsBinarySearchResult (λ x. R (f x) key) xs r → HasPlaceBy R f key xs r
  has_place (Ok i) inside equal =
      let less : (k : ℕ) (d : X) → k < i → R (f (get_or xs k d)) key ≡ Less = λ k d lt. subst (λ k'. R (f (get_or xs k d)) k' ≡ Less) (same _ _ (equal d)) (ascends k i d lt inside) in
      let more : (k : ℕ) (d : X) → i < k → k < length xs → R key (f (get_or xs k d)) ≡ Less = λ k d gt lt. subst (λ k'. R k' (f (get_or xs k d)) ≡ Less) (same _ _ (equal d)) (ascends i k d gt lt) in (
        inside,
        sym (filter-take (λ x. is_lt (R (f x) key)) xs i (λ k d low high. ap is_lt (less k d high))
            (λ k d low high. elim (cases_eq i k) [
              | inl e ↦ subst (λ n. is_lt (R (f (get_or xs n d)) key) ≡ false) e (ap is_lt (equal d))
              | inr apart ↦ ap is_lt (o.antisymm _ key) ∙ ap (λ r. is_lt (ordering_reverse r)) (more k d (omega arith) high)
            ]) (omega arith)),
        sym (filter-drop (λ x. is_lt (R key (f x))) xs (i + 1)
            (λ k d low high. elim (cases_eq i k) [
              | inl e ↦ subst (λ n. is_lt (R key (f (get_or xs n d))) ≡ false) e (ap is_lt (turned _) ∙ ap (λ r. is_lt (ordering_reverse r)) (equal d))
              | inr apart ↦ ap is_lt (turned _) ∙ ap (λ r. is_lt (ordering_reverse r)) (less k d (omega arith))
            ])
            (λ k d low high. ap is_lt (more k d (omega arith) high)) (omega arith)),
      )
  has_place (Err i) inside parted = (
    inside,
    sym (filter-take (λ x. is_lt (R (f x) key)) xs i (λ k d low high. ap is_lt ((parted rises).0 k d low high)) (λ k d low high. ap is_lt ((parted rises).1 k d low high)) inside),
    sym (filter-drop (λ x. is_lt (R key (f x))) xs i
        (λ k d low high. ap is_lt (turned _) ∙ ap (λ r. is_lt (ordering_reverse r)) ((parted rises).0 k d low high))
        (λ k d low high. ap is_lt (turned _) ∙ ap (λ r. is_lt (ordering_reverse r)) ((parted rises).1 k d low high)) inside),
  )

  apart : (i j : ℕ) (x y : X) → i < j → i < length xs → j < length xs → get_or xs i x ≡ x → get_or xs j y ≡ y → f x ≡ f y → ⊥
  apart i j x y lt in_i in_j at_i at_j e =
      let less : R (f x) (f y) ≡ Less = (λ t. R (f (sym (get_or_default xs i y x in_i ∙ at_i) t)) (f (sym at_j t))) ∙ ascends i j y lt in_j in
      let tied : R (f x) (f y) ≡ Equal = ap (λ k. R k (f y)) e ∙ tied_itself o (f y) in
      cc

  -- two elements of one key are one
  pub one_of_key : (x y : X) → Contains xs x → Contains xs y → f x ≡ f y → x ≡ y
  one_of_key x y (i, in_i, at_i) (j, in_j, at_j) e =
      elim (cases_eq i j) [
        | inl here ↦ sym at_i ∙ get_or_default xs i x y in_i ∙ ap (λ n. get_or xs n y) here ∙ at_j
        | inr other ↦ elim (cases_lt i j) [
          | inl lt ↦ absurd (apart i j x y lt in_i in_j at_i at_j e)
          | inr ge ↦ absurd (apart j i y x (omega arith) in_j in_i at_j at_i (sym e))
        ]
      ]
