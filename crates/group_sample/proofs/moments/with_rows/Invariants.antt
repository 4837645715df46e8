use Rattle.std.proofs.Common.{◌≡◌, drop}
use Rattle.group_sample.specs.Due.{with_rows}
use Rattle.group_sample.proofs.moments.with_rows.Given as goal

-- with the rows that are left it comes to the same
abbrev pub invariant-loop-row : goal.invariant-loop-row
invariant-loop-row l = with_rows (drop l.row-index l.rows) l.after ≡ with_rows l.rows l.moments
