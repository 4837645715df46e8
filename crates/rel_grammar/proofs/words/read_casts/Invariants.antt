use Rattle.std.proofs.Common.{length}
use Rattle.rel_grammar.specs.Grammar.{Reference}
use Rattle.rel_grammar.specs.Shapes.{all_shaped}
use Rattle.rel_grammar.specs.Reads.{CastsGoOn}
use Rattle.rel_grammar.proofs.words.read_casts.Given as goal

abbrev pub invariant-loop-list : goal.invariant-loop-list
invariant-loop-list l = (x : Reference) → CastsGoOn x (all_shaped l.fn.rest) l.list (all_shaped l.next)

abbrev pub decreases-loop-list : goal.decreases-loop-list
decreases-loop-list l = length (all_shaped l.next)
