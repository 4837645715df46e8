-- The entries of the map, and the rows that they are.
use Rattle.std.proofs.Common.{◌≡◌, List, [], ◌∷◌, map, true, false, cond, not, Some, refl, sym, ap, ◌∙◌, subst}
use Rattle.std.specs.declared.cmp.Ordering.{Ordering}
use Rattle.std.specs.declared.cmp.Ordering.TheVariants.{Less, Equal, Greater}
use Rattle.std.specs.Ordering.{is_eq, match_ordering}
use Rattle.std.specs.List.Sorted.{IsStrictlySortedBy}
use Rattle.std.specs.Map.{lookup, values_of, remove_entry}
use Rattle.std.specs.BTreeMap.{insert_entry, is_at}
use Rattle.desk_keep.specs.declared.change.Change.{Change}
use Rattle.desk_keep.specs.declared.key.StoredKey.{StoredKey}
use Rattle.desk_keep.specs.Keys.{key_of, key_cmp, same_key}
use Rattle.desk_keep.specs.Tables.{put, row_at}
use Rattle.desk_keep.specs.Inside.{shown_key, stored_cmp, without, AreEntries}
use Rattle.desk_keep.proofs.KeyOrder.{key_exact}
use Rattle.desk_keep.proofs.Putting.{AreAbove, put-before, put-over, put-behind}
use Rattle.desk_keep.proofs.Undoing.{without-above}

-- the key of the first entry is that of its row
first_order : (key : StoredKey) (e : StoredKey × Change) → shown_key e.0 ≡ key_of e.1 → stored_cmp key e.0 ≡ key_cmp (shown_key key) (key_of e.1)
first_order key e is = ap (key_cmp (shown_key key)) is

pub lookup-entries : (key : StoredKey) (es : List (StoredKey × Change)) → AreEntries es → lookup (is_at (stored_cmp key)) es ≡ row_at (shown_key key) (values_of es)
lookup-entries key [] are = refl
lookup-entries key (e ∷ es) are =
    ap (λ o. cond (is_eq o) (Some e.1) (lookup (is_at (stored_cmp key)) es)) (first_order key e are.0)
    ∙ ap (cond (same_key (shown_key key) (key_of e.1)) (Some e.1)) (lookup-entries key es are.1)

pub values-insert : (key : StoredKey) (row : Change) (es : List (StoredKey × Change)) → shown_key key ≡ key_of row → AreEntries es
    → IsStrictlySortedBy key_cmp (map key_of (values_of es)) → values_of (insert_entry stored_cmp es key row) ≡ put row (values_of es)
unfolding IsStrictlySortedBy
values-insert key row [] is are sorted = refl
values-insert key row (e ∷ es) is are sorted =
    elim (stored_cmp key e.0) as (λ o. stored_cmp key e.0 ≡ o
    → values_of (match_ordering o ((key, row) ∷ e ∷ es) ((e.0, row) ∷ es) (e ∷ insert_entry stored_cmp es key row)) ≡ put row (e.1 ∷ values_of es)) [
      | Less ↦ λ o. sym (put-before row e.1 (values_of es) sorted (order o))
      | Equal ↦ λ o. sym (put-over row e.1 (values_of es) sorted (order o))
      | Greater ↦ λ o. ap (λ l. e.1 ∷ l) (values-insert key row es is are.1 sorted.1) ∙ sym (put-behind row e.1 (values_of es) sorted (order o))
    ] refl
  where
    order : {o : Ordering} → stored_cmp key e.0 ≡ o → key_cmp (key_of row) (key_of e.1) ≡ o
    order o = ap (λ k. key_cmp k (key_of e.1)) (sym is) ∙ sym (first_order key e are.0) ∙ o

pub entries-insert : (key : StoredKey) (row : Change) (es : List (StoredKey × Change)) → shown_key key ≡ key_of row → AreEntries es
    → AreEntries (insert_entry stored_cmp es key row)
entries-insert key row [] is are = (is, tt)
entries-insert key row (e ∷ es) is are =
    elim (stored_cmp key e.0) as (λ o. stored_cmp key e.0 ≡ o → AreEntries (match_ordering o ((key, row) ∷ e ∷ es) ((e.0, row) ∷ es) (e ∷ insert_entry stored_cmp es key row))) [
      | Less ↦ λ o. (is, are)
      | Equal ↦ λ o. (sym (key_exact (shown_key key) (shown_key e.0) o) ∙ is, are.1)
      | Greater ↦ λ o. (are.0, entries-insert key row es is are.1)
    ] refl

pub values-remove : (key : StoredKey) (es : List (StoredKey × Change)) → AreEntries es → IsStrictlySortedBy key_cmp (map key_of (values_of es))
    → values_of (remove_entry (is_at (stored_cmp key)) es) ≡ without (shown_key key) (values_of es)
unfolding IsStrictlySortedBy
values-remove key [] are sorted = refl
values-remove key (e ∷ es) are sorted =
    elim (stored_cmp key e.0) as (λ o. stored_cmp key e.0 ≡ o
    → values_of (cond (is_eq o) es (e ∷ remove_entry (is_at (stored_cmp key)) es)) ≡ without (shown_key key) (e.1 ∷ values_of es)) [
      | Less ↦ λ o. ap (λ l. e.1 ∷ l) (values-remove key es are.1 sorted.1) ∙ sym (kept o)
      | Equal ↦ λ o.
          let same : key_cmp (shown_key key) (key_of e.1) ≡ Equal = sym (first_order key e are.0) ∙ o in
          let above : AreAbove (shown_key key) (values_of es) = subst (λ k. AreAbove k (values_of es)) (sym (key_exact (shown_key key) (key_of e.1) same)) sorted.0 in
          sym (ap (λ r. cond (not (is_eq r)) (e.1 ∷ without (shown_key key) (values_of es)) (without (shown_key key) (values_of es))) same ∙ without-above (shown_key key) (values_of es) above)
      | Greater ↦ λ o. ap (λ l. e.1 ∷ l) (values-remove key es are.1 sorted.1) ∙ sym (kept o)
    ] refl
  where
    kept : {o : Ordering} → stored_cmp key e.0 ≡ o
        → without (shown_key key) (e.1 ∷ values_of es) ≡ cond (not (is_eq o)) (e.1 ∷ without (shown_key key) (values_of es)) (without (shown_key key) (values_of es))
    kept o = ap (λ r. cond (not (is_eq r)) (e.1 ∷ without (shown_key key) (values_of es)) (without (shown_key key) (values_of es))) (sym (first_order key e are.0) ∙ o)

pub entries-remove : (key : StoredKey) (es : List (StoredKey × Change)) → AreEntries es → AreEntries (remove_entry (is_at (stored_cmp key)) es)
entries-remove key [] are = tt
entries-remove key (e ∷ es) are =
    elim (is_eq (stored_cmp key e.0)) as (λ b. AreEntries (cond b es (e ∷ remove_entry (is_at (stored_cmp key)) es))) [
      | true ↦ are.1
      | false ↦ (are.0, entries-remove key es are.1)
    ]
