use Rattle.std.proofs.Common.{length}
use Rattle.line_forms.proofs.VersionLemmas.{SoFar}
use Rattle.line_forms.proofs.version.version_numbers.Given as goal

abbrev pub invariant-loop-cut : goal.invariant-loop-cut
invariant-loop-cut l = SoFar l.text l.numbers l.left

abbrev pub decreases-loop-cut : goal.decreases-loop-cut
decreases-loop-cut l = length l.left
