use Rattle.std.proofs.Common.{All, take}
use Rattle.group_core.specs.Books.{IsTaken}
use Rattle.group_core.proofs.adding.first_taken.Given as goal

-- none so far has the name of another one
abbrev pub invariant-loop-property : goal.invariant-loop-property
invariant-loop-property l = All (λ p. ¬ IsTaken l.kept p) (take l.property-index l.properties)
