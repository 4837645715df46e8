-- The tables: one list of rows in ascending order of their keys. A table is its rows among them.
use Rattle.std.specs.Prelude.{ℕ, nat_eq, bytes_eq, Bool, ◌&&◌, List, [], ◌∷◌, ◌++◌, map, filter, All}
use Rattle.std.specs.declared.option.Option.{Option}
use Rattle.std.specs.Ordering.{is_lt}
use Rattle.std.specs.List.Sorted.{IsStrictlySortedBy}
use Rattle.std.specs.Map.{lookup}
use Rattle.desk_keep.specs.declared.table.Table.{Table}
use Rattle.desk_keep.specs.declared.change.Change.{Change}
use Rattle.desk_keep.specs.declared.change.Change.TheVariants as change
use Rattle.desk_keep.specs.Keys.{Key, table_number, key_of, key_cmp, same_key}
use Rattle.desk_keep.specs.Forms.{Fits}

-- a row with its key
abbrev pub keyed : Change → Key × Change
keyed row = (key_of row, row)

-- the row of a key, if there is one
abbrev pub row_at : Key → List Change → Option Change
row_at key rows = lookup (same_key key) (map keyed rows)

-- the rows of lower keys, and those of higher ones
abbrev pub rows_below : Key → List Change → List Change
rows_below key rows = filter (λ row. is_lt (key_cmp (key_of row) key)) rows

abbrev pub rows_above : Key → List Change → List Change
rows_above key rows = filter (λ row. is_lt (key_cmp key (key_of row))) rows

-- the rows with this one at its key
abbrev pub put : Change → List Change → List Change
put row rows = rows_below (key_of row) rows ++ row ∷ rows_above (key_of row) rows

-- the rows with those of a batch, put in their order
abbrev pub put_all : List Change → List Change → List Change
put_all [] rows = rows
put_all (row ∷ batch) rows = put_all batch (put row rows)

-- whether a row is one of the table
abbrev pub is_of : Table → Change → Bool
is_of table row = nat_eq (key_of row).table (table_number table)

-- whether a row is a result of the computer
abbrev pub is_result_of : List ℕ → Change → Bool
is_result_of computer row = nat_eq (key_of row).table 5 && bytes_eq (key_of row).name computer

-- the row of a site without its text, and any other as it is
abbrev pub without_text : Change → Change
without_text (change.Site name version text) = change.Site name version []
without_text row = row

-- rows in strictly ascending order of their keys, each in its form
pub record AreRows (rows : List Change) : Type 0 where
  pub ascending : IsStrictlySortedBy key_cmp (map key_of rows)
  pub fit : All Fits rows
