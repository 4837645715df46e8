use Rattle.std.proofs.Common.{◌≡◌, [], vec_len}
use Rattle.session_tables.specs.Inside.{with_names}
use Rattle.session_tables.proofs.entries.names_of.Given as goal

-- with those of the rows that are left, the names are all
abbrev pub invariant-loop-row : goal.invariant-loop-row
invariant-loop-row l = with_names l.left.items l.names ≡ with_names l.fn.left.items []

abbrev pub decreases-loop-row : goal.decreases-loop-row
decreases-loop-row l = vec_len l.left
