use Rattle.std.proofs.Common.{arith}
use Rattle.std.proofs.lemmas.Grind.{common_steps}
use Rattle.bf_world.specs.Places.{has_parent}
use Rattle.bf_world.proofs.world.World.has_parent.Goals as goal

pub returns-then-is_empty : goal.returns-then-is_empty
unfolding has_parent
returns-then-is_empty c = grind (arith, common_steps)

pub returns-else-is_empty : goal.returns-else-is_empty
unfolding has_parent
returns-else-is_empty c = grind (arith, common_steps)
