-- Maps from texts. Other crates may cite these lemmas.
use Rattle.std.proofs.Common.{◌≡◌, ℕ, true, false, cond, List, [], ◌∷◌, ◌++◌, String, Some, None, refl, ap, ◌∙◌, sym, subst, append_assoc}
use Rattle.std.specs.declared.cmp.Ordering.{Ordering}
use Rattle.std.specs.declared.cmp.Ordering.TheVariants.{Less, Equal, Greater}
use Rattle.std.specs.Ordering.{match_ordering, ordering_reverse, is_eq}
use Rattle.std.specs.Cmp.Lexicographic.{nat_list_cmp_total}
use Rattle.std.specs.List.{AllByRecursion}
use Rattle.std.specs.List.Sorted.{IsStrictlySortedBy}
use Rattle.std.specs.Map.{lookup, keys_of, remove_entry}
use Rattle.std.specs.BTreeMap.{insert_entry, is_at}
use Rattle.std.specs.String.{string_bytes, string_cmp}
use Rattle.bf_world.specs.Maps.{byte_order, IsMap, at, put, without, by_bytes}

by-lookup : {V A : Type 0} (key : List ℕ) (es : List (String A × V)) → lookup (λ k. is_at (byte_order key) (string_bytes k)) es ≡ at key (by_bytes es)
by-lookup key [] = refl
by-lookup key (e ∷ es) = ap (cond (is_at (byte_order key) (string_bytes e.0)) _) (by-lookup key es)

pub at-by_bytes : {V A : Type 0} (key : List ℕ) (es : List (String A × V)) → lookup (is_at (λ k. byte_order key (string_bytes k))) es ≡ at key (by_bytes es)
at-by_bytes key es = by-lookup key es

pub without-by_bytes : {V A : Type 0} (key : List ℕ) (es : List (String A × V)) → by_bytes (remove_entry (is_at (λ k. byte_order key (string_bytes k))) es) ≡ without key (by_bytes es)
without-by_bytes key [] = refl
without-by_bytes key (e ∷ es) =
    elim (is_at (byte_order key) (string_bytes e.0)) as (λ b. by_bytes (cond b es (e ∷ remove_entry (is_at (λ k. byte_order key (string_bytes k))) es)) ≡ cond b (by_bytes es) ((string_bytes e.0, e.1) ∷ without key (by_bytes es))) [
      | true ↦ refl
      | false ↦ ap (λ l. (string_bytes e.0, e.1) ∷ l) (without-by_bytes key es)
    ]

pub put-by_bytes : {V A : Type 0} (k : String A) (v : V) (es : List (String A × V)) → by_bytes (insert_entry string_cmp es k v) ≡ put (string_bytes k) v (by_bytes es)
put-by_bytes k v [] = refl
put-by_bytes k v (e ∷ es) =
    elim (string_cmp k e.0) as (λ r. by_bytes (match_ordering r ((k, v) ∷ e ∷ es) ((e.0, v) ∷ es) (e ∷ insert_entry string_cmp es k v)) ≡ match_ordering r ((string_bytes k, v) ∷ (string_bytes e.0, e.1) ∷ by_bytes es) ((string_bytes e.0, v) ∷ by_bytes es) ((string_bytes e.0, e.1) ∷ put (string_bytes k) v (by_bytes es))) [
      | Less ↦ refl
      | Equal ↦ refl
      | Greater ↦ ap (λ l. (string_bytes e.0, e.1) ∷ l) (put-by_bytes k v es)
    ]

-- ---- the order of the keys
below-by_bytes : {V A : Type 0} (k : String A) (es : List (String A × V)) → AllByRecursion (λ y. string_cmp k y ≡ Less) (keys_of es) → AllByRecursion (λ y. byte_order (string_bytes k) y ≡ Less) (keys_of (by_bytes es))
below-by_bytes k [] all = all
below-by_bytes k (e ∷ es) all = (all.0, below-by_bytes k es all.1)

pub IsMap-by_bytes : {V A : Type 0} (es : List (String A × V)) → IsStrictlySortedBy string_cmp (keys_of es) → IsMap (by_bytes es)
unfolding IsStrictlySortedBy
IsMap-by_bytes [] sorted = sorted
IsMap-by_bytes (e ∷ es) sorted = (below-by_bytes e.0 es sorted.0, IsMap-by_bytes es sorted.1)

all_keys-at : {V : Type 0} (P : List ℕ → Type 0) (xs : List (List ℕ × V)) (k : List ℕ) (v : V) (rest : List (List ℕ × V)) → AllByRecursion P (keys_of (xs ++ (k, v) ∷ rest)) → P k
all_keys-at P [] k v rest all = all.0
all_keys-at P (e ∷ xs) k v rest all = all_keys-at P xs k v rest all.1

-- an entry whose key is above all keys goes to the end
pub put-last : {V : Type 0} (xs : List (List ℕ × V)) (k : List ℕ) (v : V) (rest : List (List ℕ × V)) → IsMap (xs ++ (k, v) ∷ rest) → put k v xs ≡ xs ++ (k, v) ∷ []
unfolding IsStrictlySortedBy
put-last [] k v rest sorted = refl
put-last (e ∷ xs) k v rest sorted =
    let below : byte_order e.0 k ≡ Less = all_keys-at (λ y. byte_order e.0 y ≡ Less) xs k v rest sorted.0 in
    let above : byte_order k e.0 ≡ Greater = nat_list_cmp_total.antisymm k e.0 ∙ ap ordering_reverse below in
    ap (λ r. match_ordering r ((k, v) ∷ e ∷ xs) ((e.0, v) ∷ xs) (e ∷ put k v xs)) above ∙ ap (λ l. e ∷ l) (put-last xs k v rest sorted.1)

pub itself : (r : Ordering) → r ≡ ordering_reverse r → r ≡ Equal
itself Less e = absurd (cc)
itself Equal e = refl
itself Greater e = absurd (cc)

pub order-same : (k : List ℕ) → byte_order k k ≡ Equal
order-same k = itself (byte_order k k) (nat_list_cmp_total.antisymm k k)

-- taking out what was put leaves the map, where the key was absent
pub without-put : {V : Type 0} (k : List ℕ) (v : V) (es : List (List ℕ × V)) → at k es ≡ None → without k (put k v es) ≡ es
without-put k v [] absent = ap (λ r. cond (is_eq r) [] ((k, v) ∷ [])) (order-same k)
without-put k v (e ∷ es) absent = by (byte_order k e.0) refl (without-put k v es)
  where
    by : (r : Ordering) → byte_order k e.0 ≡ r → (at k es ≡ None → without k (put k v es) ≡ es) → without k (match_ordering (byte_order k e.0) ((k, v) ∷ e ∷ es) ((e.0, v) ∷ es) (e ∷ put k v es)) ≡ e ∷ es
    by Less is more = ap (λ r. without k (match_ordering r ((k, v) ∷ e ∷ es) ((e.0, v) ∷ es) (e ∷ put k v es))) is ∙ ap (λ r. cond (is_eq r) (e ∷ es) ((k, v) ∷ without k (e ∷ es))) (order-same k)
    by Equal is more = absurd (let found : Some e.1 ≡ None = ap (λ r. cond (is_eq r) (Some e.1) (at k es)) (sym is) ∙ absent in cc)
    by Greater is more =
        let later : at k es ≡ None = ap (λ r. cond (is_eq r) (Some e.1) (at k es)) (sym is) ∙ absent in
        ap (λ r. without k (match_ordering r ((k, v) ∷ e ∷ es) ((e.0, v) ∷ es) (e ∷ put k v es))) is
        ∙ ap (λ r. cond (is_eq r) (put k v es) (e ∷ without k (put k v es))) is ∙ ap (λ l. e ∷ l) (more later)

-- an entry whose key stands behind those of a front of a map goes to the end of that front
pub put-next : {V : Type 0} (all xs : List (List ℕ × V)) (k : List ℕ) (v : V) (rest : List (List ℕ × V)) → IsMap all → xs ++ (k, v) ∷ rest ≡ all → put k v xs ++ rest ≡ all
put-next {V} all xs k v rest sorted is =
    let P : List (List ℕ × V) → Type 0 = IsMap in
    ap (λ l. l ++ rest) (put-last xs k v rest (subst P (sym is) sorted)) ∙ append_assoc xs ((k, v) ∷ []) rest ∙ is
