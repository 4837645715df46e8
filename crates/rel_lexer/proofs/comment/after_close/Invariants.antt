use Rattle.std.proofs.Common.{ℕ, List, Option, length}
use Rattle.rel_lexer.proofs.Closing.{ClosesTo}
use Rattle.rel_lexer.proofs.comment.after_close.Given as goal

-- what closes the rest closes the whole
abbrev pub invariant-loop-first : goal.invariant-loop-first
invariant-loop-first l = (answer : Option (List ℕ)) → ClosesTo l.rest answer → ClosesTo l.bytes answer

abbrev pub decreases-loop-first : goal.decreases-loop-first
decreases-loop-first l = length l.rest
