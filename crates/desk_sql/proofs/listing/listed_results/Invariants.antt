use Rattle.std.proofs.Common.{◌≡◌, true, All}
use Rattle.desk_keep.specs.Tables.{is_result_of, AreRows}
use Rattle.desk_sql.proofs.listing.listed_results.Given as goal

abbrev pub invariant-loop-row : goal.invariant-loop-row
invariant-loop-row l = AreRows l.changes × All (λ row. is_result_of l.computer row ≡ true) l.changes
