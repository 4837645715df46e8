use Rattle.std.proofs.Common.{◌≡◌, ◌++◌}
use Rattle.std.specs.Map.{values_of}
use Rattle.desk_keep.proofs.listing.copies.Given as goal

-- the rows so far and those that are left are all
abbrev pub invariant-loop-row : goal.invariant-loop-row
invariant-loop-row l = l.list ++ values_of l.row-iterator ≡ values_of l.fn.rows
