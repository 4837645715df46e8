-- What becomes of the map and the counts as a row is put or taken out.
use Rattle.std.proofs.Common.{◌≡◌, ℕ, List, length, sym, ap, ◌∙◌, subst}
use Rattle.std.specs.Map.{values_of, remove_entry}
use Rattle.std.specs.BTreeMap.{BTreeMap, get, values, insert_entry, is_at}
use Rattle.desk_keep.specs.declared.change.Change.{Change}
use Rattle.desk_keep.specs.declared.key.StoredKey.{StoredKey}
use Rattle.desk_keep.specs.Keys.{key_of}
use Rattle.desk_keep.specs.Forms.{Fits}
use Rattle.desk_keep.specs.Tables.{put, row_at, AreRows}
use Rattle.desk_keep.specs.Inside.{shown_key, stored_cmp, without, AreEntries, AreCounts, IsInside}
use Rattle.desk_keep.proofs.Putting.{AreRows-put, AreRows-filter}
use Rattle.desk_keep.proofs.Entries.{lookup-entries, values-insert, entries-insert, values-remove, entries-remove}

module _ (m n : BTreeMap StoredKey Change) (key : StoredKey) (row : Change) (is : shown_key key ≡ key_of row) (rows : AreRows (values m)) (entries : AreEntries m.entries) where
  -- what stands at the key of the row
  pub found : get stored_cmp m key ≡ row_at (key_of row) (values m)
  found = lookup-entries key m.entries entries ∙ ap (λ k. row_at k (values m)) is

  pub inserted : n.entries ≡ insert_entry stored_cmp m.entries key row → values n ≡ put row (values m)
  inserted new = ap values_of new ∙ values-insert key row m.entries is entries rows.ascending

  pub inside_inserted : (counts : List ℕ) → Fits row → n.entries ≡ insert_entry stored_cmp m.entries key row → length counts ≡ 6 → AreCounts counts (put row (values m))
      → IsInside (record { rows = n; counts = counts })
  inside_inserted counts fits new six counted = record {
    rows = subst AreRows (sym (inserted new)) (AreRows-put row (values m) fits rows);
    entries = subst AreEntries (sym new) (entries-insert key row m.entries is entries);
    tables = six;
    counts = subst (AreCounts counts) (sym (inserted new)) counted;
  }

  pub removed : n.entries ≡ remove_entry (is_at (stored_cmp key)) m.entries → values n ≡ without (key_of row) (values m)
  removed new = ap values_of new ∙ values-remove key m.entries entries rows.ascending ∙ ap (λ k. without k (values m)) is

  pub inside_removed : (counts : List ℕ) → n.entries ≡ remove_entry (is_at (stored_cmp key)) m.entries → length counts ≡ 6 → AreCounts counts (without (key_of row) (values m))
      → IsInside (record { rows = n; counts = counts })
  inside_removed counts new six counted = record {
    rows = subst AreRows (sym (removed new)) (AreRows-filter _ (values m) rows);
    entries = subst AreEntries (sym new) (entries-remove key m.entries entries);
    tables = six;
    counts = subst (AreCounts counts) (sym (removed new)) counted;
  }
