use Rattle.std.proofs.Common.{◌≡◌, ◌++◌, length}
use Rattle.rel_sources.specs.Words.{readable}
use Rattle.rel_sources.proofs.content.readable.Given as goal

abbrev pub invariant-loop-rest : goal.invariant-loop-rest
invariant-loop-rest l = l.text ++ readable l.left ≡ readable l.bytes

abbrev pub decreases-loop-rest : goal.decreases-loop-rest
decreases-loop-rest l = length l.left
