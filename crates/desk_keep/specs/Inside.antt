-- How the rows are kept in memory. Only private functions cite these definitions.
use Rattle.std.specs.Prelude.{◌≡◌, ℕ, ◌-◌, not, List, [], ◌∷◌, filter, length, take, slice_get, slice_index_or, count_by, IfSome}
use Rattle.std.specs.declared.option.Option.{Option}
use Rattle.std.specs.declared.cmp.Ordering.{Ordering}
use Rattle.std.specs.declared.cmp.Ordering.TheVariants.{Less}
use Rattle.std.specs.Ordering.{ordering_then, nat_cmp}
use Rattle.std.specs.Cmp.Lexicographic.{slice_cmp}
use Rattle.std.specs.List.{AllByRecursion}
use Rattle.std.specs.BTreeMap.{values}
use Rattle.desk_keep.specs.declared.table.Table.{Table}
use Rattle.desk_keep.specs.declared.change.Change.{Change}
use Rattle.desk_keep.specs.declared.key.KeyParts.{KeyParts}
use Rattle.desk_keep.specs.declared.key.StoredKey.{StoredKey}
use Rattle.desk_keep.specs.declared.ordered_rows.OrderedRows.TheInside.{Inside}
use Rattle.desk_keep.specs.Keys.{Key, key_of, key_cmp, table_number, same_key}
use Rattle.desk_keep.specs.Tables.{AreRows, is_of, put, put_all, row_at}

-- the key of which these are the parts
abbrev pub shown_parts : KeyParts → Key
shown_parts parts = record { table = table_number parts.table; name = parts.name.now; number = parts.number }

-- the key that is kept as this one
abbrev pub shown_key : StoredKey → Key
shown_key key = record { table = key.table; name = key.name.items; number = key.number }

-- the order of kept keys
abbrev pub stored_cmp : StoredKey → StoredKey → Ordering
stored_cmp key other =
    ordering_then (nat_cmp key.table other.table)
    (ordering_then (slice_cmp nat_cmp key.name.items other.name.items) (nat_cmp key.number other.number))

-- each row stands at its key
abbrev pub AreEntries : List (StoredKey × Change) → Type 0
AreEntries entries = AllByRecursion (λ e. shown_key e.0 ≡ key_of e.1) entries

-- the number of rows of each table, by its place in their order
abbrev pub AreCounts : List ℕ → List Change → Type 0
AreCounts counts rows =
    (table : Table) (d : ℕ) → slice_index_or counts (table_number table) d ≡ count_by (is_of table) rows

-- Each row stands at its key, and the rows of each table are counted.
pub record IsInside (inside : Inside) : Type 0 where
  pub rows : AreRows (values inside.rows)
  pub entries : AreEntries inside.rows.entries
  pub tables : length inside.counts ≡ 6
  pub counts : AreCounts inside.counts (values inside.rows)

-- the rows without that of the key
abbrev pub without : Key → List Change → List Change
without key rows = filter (λ row. not (same_key key (key_of row))) rows

-- what stood at the key of each row of a batch before it was put
abbrev pub stood_before : List Change → List Change → List (Option Change)
stood_before [] rows = []
stood_before (row ∷ batch) rows = row_at (key_of row) rows ∷ stood_before batch (put row rows)

-- The first rows of a batch were put, as many as are told of what stood at their keys before.
abbrev pub WerePut : List Change → List (Option Change) → List Change → List Change → Type 0
WerePut batch before start rows =
    (before ≡ stood_before (take (length before) batch) start) × (rows ≡ put_all (take (length before) batch) start)

-- the key of the row is above that of the last of these
abbrev pub IsAboveLast : List Change → Change → Type 0
IsAboveLast rows row = IfSome (slice_get rows (length rows - 1)) (λ last. key_cmp (key_of last) (key_of row) ≡ Less)
