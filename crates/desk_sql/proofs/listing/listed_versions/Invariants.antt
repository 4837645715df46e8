use Rattle.std.proofs.Common.{◌≡◌, true, All}
use Rattle.desk_keep.specs.declared.table.Table.TheVariants.{Sites}
use Rattle.desk_keep.specs.Tables.{is_of, without_text, AreRows}
use Rattle.desk_sql.proofs.listing.listed_versions.Given as goal

abbrev pub invariant-loop-row : goal.invariant-loop-row
invariant-loop-row l = AreRows l.changes × All (λ row. (is_of Sites row ≡ true) × (without_text row ≡ row)) l.changes
