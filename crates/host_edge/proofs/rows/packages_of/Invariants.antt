use Rattle.std.proofs.Common.{length}
use Rattle.host_edge.proofs.rows.packages_of.Given as goal

abbrev pub decreases-loop-line : goal.decreases-loop-line
decreases-loop-line l = length l.lines.lines
