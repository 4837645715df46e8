use Rattle.std.proofs.Common.{◌≡◌, ◌++◌, length}
use Rattle.rel_lexer.specs.Bytes.{decoded}
use Rattle.rel_lexer.proofs.string.decode.Given as goal

-- the bytes so far stand before what the rest stands for
abbrev pub invariant-loop-first : goal.invariant-loop-first
invariant-loop-first l = l.bytes.items ++ decoded l.rest ≡ decoded l.raw

abbrev pub decreases-loop-first : goal.decreases-loop-first
decreases-loop-first l = length l.rest
