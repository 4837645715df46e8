use Rattle.std.proofs.Common.{◌≡◌, ◌++◌, map, filter}
use Rattle.std.specs.Map.{values_of}
use Rattle.desk_keep.specs.declared.table.Table.TheVariants.{Sites}
use Rattle.desk_keep.specs.Tables.{is_of, without_text}
use Rattle.desk_keep.proofs.listing.versions.Given as goal

-- the rows so far and those that are left are all
abbrev pub invariant-loop-row : goal.invariant-loop-row
invariant-loop-row l = l.list ++ map without_text (values_of l.row-iterator) ≡ map without_text (filter (is_of Sites) l.rows)
