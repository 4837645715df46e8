use Rattle.std.proofs.Common.{◌≡◌, take}
use Rattle.rel_grammar.proofs.casts.CastList.copy.Given as goal

abbrev pub invariant-loop-cast : goal.invariant-loop-cast
invariant-loop-cast l = l.copies.items ≡ take l.cast-index l.cast-items
