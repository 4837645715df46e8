use Rattle.std.proofs.Common.{arith}
use Rattle.std.proofs.lemmas.Grind.{common_steps}
use Rattle.bf_world.specs.Paths.{is_free}
use Rattle.bf_world.proofs.path.is_free.Goals as goal

pub returns-then-is_path : goal.returns-then-is_path
unfolding is_free
returns-then-is_path c = grind (arith, common_steps)

pub returns-else-is_path : goal.returns-else-is_path
unfolding is_free
returns-else-is_path c = grind (arith, common_steps)
