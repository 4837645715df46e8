use Rattle.std.proofs.Common.{length}
use Rattle.line_forms.specs.Paths.{AreParts}
use Rattle.line_forms.proofs.path.are_parts.Given as goal

-- what is left are parts exactly where the text is
abbrev pub invariant-loop-cut : goal.invariant-loop-cut
invariant-loop-cut l = record { to : AreParts l.text → AreParts l.left; from : AreParts l.left → AreParts l.text }

abbrev pub decreases-loop-cut : goal.decreases-loop-cut
decreases-loop-cut l = length l.left
