-- Look-ups in lists of entries whose keys are distinct.
use Rattle.std.specs.Prelude.{◌≡◌, Bool, true, false, cond, List, [], ◌∷◌, ◌++◌, Some, None}
use Rattle.std.specs.declared.option.Option.{Option}
use Rattle.std.specs.Option.{option_or}
use Rattle.std.specs.Map.{lookup, keys_of}
use Rattle.std.specs.List.{IsDistinct, AllByRecursion}
use Rattle.std.specs.Cmp.{IsEquivalence}
use Rattle.std.proofs.Common.{refl, sym, ap, ◌∙◌, subst}
use Rattle.std.proofs.lemmas.Map.{NonePasses, lookup-none}
use Rattle.std.proofs.lemmas.List.{map-append}

pub lookup-append : {K X : Type 0} (test : K → Bool) (xs ys : List (K × X)) → lookup test (xs ++ ys) ≡ option_or (lookup test xs) (lookup test ys)
lookup-append test [] ys = refl
lookup-append test (e ∷ xs) ys =
    elim (test e.0) as (λ b. cond b (Some e.1) (lookup test (xs ++ ys)) ≡ option_or (cond b (Some e.1) (lookup test xs)) (lookup test ys)) [
      | true ↦ refl
      | false ↦ lookup-append test xs ys
    ]

-- what holds of each key of some entries
pub none_passes_from_keys : {K X : Type 0} (test : K → Bool) (es : List (K × X)) → AllByRecursion (λ k. test k ≡ false) (keys_of es) → NonePasses test es
none_passes_from_keys test [] h = tt
none_passes_from_keys test (e ∷ es) h = (h.0, none_passes_from_keys test es h.1)

-- without one element
pub all_rest : {K : Type 0} (P : K → Type 0) (xs : List K) (k : K) (ys : List K) → AllByRecursion P (xs ++ k ∷ ys) → AllByRecursion P (xs ++ ys)
all_rest P [] k ys h = h.1
all_rest P (x ∷ xs) k ys h = (h.0, all_rest P xs k ys h.1)

-- of that element
pub all_at : {K : Type 0} (P : K → Type 0) (xs : List K) (k : K) (ys : List K) → AllByRecursion P (xs ++ k ∷ ys) → P k
all_at P [] k ys h = h.0
all_at P (x ∷ xs) k ys h = all_at P xs k ys h.1

-- of the later ones
pub all_later : {K : Type 0} (P : K → Type 0) (xs ys : List K) → AllByRecursion P (xs ++ ys) → AllByRecursion P ys
all_later P [] ys h = h
all_later P (x ∷ xs) ys h = all_later P xs ys h.1

pub rest_distinct : {K : Type 0} (eq : K → K → Bool) (xs : List K) (k : K) (ys : List K) → IsDistinct eq (xs ++ k ∷ ys) → IsDistinct eq (xs ++ ys)
unfolding IsDistinct
rest_distinct eq [] k ys h = h.1
rest_distinct eq (x ∷ xs) k ys h = (all_rest (λ y. eq x y ≡ false) xs k ys h.0, rest_distinct eq xs k ys h.1)

-- the later ones
pub later_distinct : {K : Type 0} (eq : K → K → Bool) (xs ys : List K) → IsDistinct eq (xs ++ ys) → IsDistinct eq ys
unfolding IsDistinct
later_distinct eq [] ys h = h
later_distinct eq (x ∷ xs) ys h = later_distinct eq xs ys h.1

option_or-none : {X : Type 0} (o : Option X) → option_or o None ≡ o
option_or-none None = refl
option_or-none (Some x) = refl

chosen : {X : Type 0} (b : Bool) (x y z : X) → cond b x (cond b y z) ≡ cond b x z
chosen true x y z = refl
chosen false x y z = refl

module _ {K : Type 0} {eq : K → K → Bool} (laws : IsEquivalence eq) where
  -- the others differ from this one
  pub apart_from_rest : (xs : List K) (k : K) (ys : List K) → IsDistinct eq (xs ++ k ∷ ys) → AllByRecursion (λ y. eq k y ≡ false) (xs ++ ys)
  unfolding IsDistinct
  apart_from_rest [] k ys h = h.0
  apart_from_rest (x ∷ xs) k ys h =
      (laws.symm k x ∙ all_at (λ y. eq x y ≡ false) xs k ys h.0, apart_from_rest xs k ys h.1)

  -- keys that are equal find the same
  pub lookup-alike : {X : Type 0} (k q : K) (es : List (K × X)) → eq k q ≡ true → lookup (eq q) es ≡ lookup (eq k) es
  lookup-alike k q es e = λ i. lookup (λ x. sym (laws.congr k q x e) i) es

  pushed : {X : Type 0} (k : K) (v : X) (q : K) (es : List (K × X)) → lookup (eq k) es ≡ None
      → option_or (lookup (eq q) es) (cond (eq k q) (Some v) None) ≡ cond (eq k q) (Some v) (lookup (eq q) es)
  pushed k v q es absent =
      elim (eq k q) as (λ b. eq k q ≡ b → option_or (lookup (eq q) es) (cond b (Some v) None) ≡ cond b (Some v) (lookup (eq q) es)) [
        | true ↦ λ e. ap (λ o. option_or o (Some v)) (lookup-alike k q es e ∙ absent)
        | false ↦ λ e. option_or-none (lookup (eq q) es)
      ] refl

  -- one more entry, of a new key
  pub lookup-push : {X : Type 0} (k : K) (v : X) (q : K) (es : List (K × X)) → lookup (eq k) es ≡ None
      → lookup (eq q) (es ++ (k, v) ∷ []) ≡ cond (eq k q) (Some v) (lookup (eq q) es)
  lookup-push k v q es absent =
      lookup-append (eq q) es ((k, v) ∷ [])
      ∙ ap (λ b. option_or (lookup (eq q) es) (cond b (Some v) None)) (laws.symm q k)
      ∙ pushed k v q es absent

  -- the keys of the other entries
  pub apart_from_entries : {X : Type 0} (xs : List (K × X)) (k : K) (v : X) (ys : List (K × X)) → IsDistinct eq (keys_of (xs ++ (k, v) ∷ ys))
      → AllByRecursion (λ y. eq k y ≡ false) (keys_of (xs ++ ys))
  apart_from_entries xs k v ys distinct =
      let Apart : List K → Type 0 = AllByRecursion (λ y. eq k y ≡ false) in
      subst Apart (sym (map-append (λ e. e.0) xs ys))
      (apart_from_rest (keys_of xs) k (keys_of ys) (subst (IsDistinct eq) (map-append (λ e. e.0) xs ((k, v) ∷ ys)) distinct))

  -- without the entry of a key
  pub lookup-rest : {X : Type 0} (xs : List (K × X)) (k : K) (v : X) (ys : List (K × X)) (q : K) → IsDistinct eq (keys_of (xs ++ (k, v) ∷ ys))
      → lookup (eq q) (xs ++ ys) ≡ cond (eq k q) None (lookup (eq q) (xs ++ (k, v) ∷ ys))
  lookup-rest xs k v ys q distinct =
      elim (eq k q) as (λ b. eq k q ≡ b → lookup (eq q) (xs ++ ys) ≡ cond b None (lookup (eq q) (xs ++ (k, v) ∷ ys))) [
        | true ↦ λ e. lookup-alike k q (xs ++ ys) e ∙ lookup-none (eq k) (xs ++ ys) (none_passes_from_keys (eq k) (xs ++ ys) (apart_from_entries xs k v ys distinct))
        | false ↦ λ e. lookup-append (eq q) xs ys
            ∙ ap (λ b. option_or (lookup (eq q) xs) (cond b (Some v) (lookup (eq q) ys))) (sym (laws.symm q k ∙ e))
            ∙ sym (lookup-append (eq q) xs ((k, v) ∷ ys))
      ] refl

  pub entries_distinct : {X : Type 0} (xs : List (K × X)) (k : K) (v : X) (ys : List (K × X)) → IsDistinct eq (keys_of (xs ++ (k, v) ∷ ys))
      → IsDistinct eq (keys_of (xs ++ ys))
  entries_distinct xs k v ys distinct =
      subst (IsDistinct eq) (sym (map-append (λ e. e.0) xs ys))
      (rest_distinct eq (keys_of xs) k (keys_of ys) (subst (IsDistinct eq) (map-append (λ e. e.0) xs ((k, v) ∷ ys)) distinct))

  -- an entry that moves to the front and gets another value
  pub lookup-moved : {X : Type 0} (xs : List (K × X)) (k : K) (v w : X) (ys : List (K × X)) (q : K) → IsDistinct eq (keys_of (xs ++ (k, v) ∷ ys))
      → lookup (eq q) ((k, w) ∷ (xs ++ ys)) ≡ cond (eq k q) (Some w) (lookup (eq q) (xs ++ (k, v) ∷ ys))
  lookup-moved xs k v w ys q distinct =
      ap (λ b. cond b (Some w) (lookup (eq q) (xs ++ ys))) (laws.symm q k)
      ∙ ap (λ o. cond (eq k q) (Some w) o) (lookup-rest xs k v ys q distinct)
      ∙ chosen (eq k q) (Some w) None (lookup (eq q) (xs ++ (k, v) ∷ ys))

  -- the entry that moves leaves distinct keys
  pub moved_distinct : {X : Type 0} (xs : List (K × X)) (k : K) (v w : X) (ys : List (K × X)) → IsDistinct eq (keys_of (xs ++ (k, v) ∷ ys))
      → IsDistinct eq (keys_of ((k, w) ∷ (xs ++ ys)))
  unfolding IsDistinct
  moved_distinct xs k v w ys distinct = (apart_from_entries xs k v ys distinct, entries_distinct xs k v ys distinct)

  -- a key that the first entries have is none of the later ones
  pub lookup-later : {X : Type 0} (xs ys : List (K × X)) (q : K) (v : X) → IsDistinct eq (keys_of (xs ++ ys)) → lookup (eq q) xs ≡ Some v
      → lookup (eq q) ys ≡ None
  unfolding IsDistinct
  lookup-later [] ys q v distinct found = cc
  lookup-later (e ∷ xs) ys q v distinct found =
      elim (eq q e.0) as (λ b. eq q e.0 ≡ b → cond b (Some e.1) (lookup (eq q) xs) ≡ Some v → lookup (eq q) ys ≡ None) [
        | true ↦ λ same _. lookup-alike e.0 q ys (laws.symm e.0 q ∙ same) ∙ lookup-none (eq e.0) ys (none_passes_from_keys (eq e.0) ys
            (all_later (λ y. eq e.0 y ≡ false) (keys_of xs) (keys_of ys) (subst (λ l. AllByRecursion (λ y. eq e.0 y ≡ false) l) (map-append (λ e. e.0) xs ys) distinct.0)))
        | false ↦ λ _ later. lookup-later xs ys q v distinct.1 later
      ] refl found
