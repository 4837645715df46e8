-- The keys of rows and their order: by table, then by name or digest in the order of bytes, then by number.
use Rattle.std.specs.Prelude.{ℕ, List, [], Bool}
use Rattle.std.specs.declared.cmp.Ordering.{Ordering}
use Rattle.std.specs.Ordering.{ordering_then, nat_cmp, is_eq}
use Rattle.std.specs.Cmp.Lexicographic.{slice_cmp}
use Rattle.desk_keep.specs.declared.table.Table.{Table}
use Rattle.desk_keep.specs.declared.table.Table.TheVariants as table
use Rattle.desk_keep.specs.declared.change.Change.{Change}
use Rattle.desk_keep.specs.declared.change.Change.TheVariants as change
use Rattle.desk_keep.specs.declared.find.Find.{Find}
use Rattle.desk_keep.specs.declared.find.Find.TheVariants as find

-- the number of a table, a name or a digest, and a number
pub record Key : Type 0 where
  pub table : ℕ
  pub name : List ℕ
  pub number : ℕ

-- the tables in their order
abbrev pub table_number : Table → ℕ
table_number table.Sites = 0
table_number table.Actions = 1
table_number table.Files = 2
table_number table.Computers = 3
table_number table.Reports = 4
table_number table.Results = 5

-- the key of a row
abbrev pub key_of : Change → Key
key_of (change.Site name version text) = record { table = 0; name = name; number = 0 }
key_of (change.Action id text digest) = record { table = 1; name = []; number = id }
key_of (change.File digest bytes) = record { table = 2; name = digest; number = 0 }
key_of (change.Computer name) = record { table = 3; name = name; number = 0 }
key_of (change.Report computer seq digest) = record { table = 4; name = computer; number = seq }
key_of (change.Result result) = record { table = 5; name = result.computer; number = result.row.action }

-- the key that is asked for
abbrev pub asked_key : Find → Key
asked_key (find.Site name) = record { table = 0; name = name; number = 0 }
asked_key (find.Action id) = record { table = 1; name = []; number = id }
asked_key (find.File digest) = record { table = 2; name = digest; number = 0 }
asked_key (find.Computer name) = record { table = 3; name = name; number = 0 }
asked_key (find.Report computer seq) = record { table = 4; name = computer; number = seq }
asked_key (find.Result computer action) = record { table = 5; name = computer; number = action }

-- the order of keys
abbrev pub key_cmp : Key → Key → Ordering
key_cmp key other =
    ordering_then (nat_cmp key.table other.table)
    (ordering_then (slice_cmp nat_cmp key.name other.name) (nat_cmp key.number other.number))

-- whether two keys are the same
abbrev pub same_key : Key → Key → Bool
same_key key other = is_eq (key_cmp key other)
