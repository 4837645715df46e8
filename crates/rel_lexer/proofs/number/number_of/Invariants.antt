use Rattle.std.proofs.Common.{length}
use Rattle.rel_lexer.proofs.DigitLemmas.{ReadSoFar}
use Rattle.rel_lexer.proofs.number.number_of.Given as goal

abbrev pub invariant-loop-digit : goal.invariant-loop-digit
invariant-loop-digit l = ReadSoFar l.digits l.number l.rest

abbrev pub decreases-loop-digit : goal.decreases-loop-digit
decreases-loop-digit l = length l.rest
