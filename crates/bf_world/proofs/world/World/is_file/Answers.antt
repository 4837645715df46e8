use Rattle.std.proofs.Common.{arith}
use Rattle.std.proofs.lemmas.Grind.{common_steps}
use Rattle.bf_world.specs.Places.{node_at, is_file}
use Rattle.bf_world.proofs.world.World.is_file.Goals as goal

pub returns-then-eq : goal.returns-then-eq
unfolding is_file node_at
returns-then-eq c = grind (arith, common_steps)

pub returns-in-Some-Folder : goal.returns-in-Some-Folder
unfolding is_file node_at
returns-in-Some-Folder c = grind (arith, common_steps)

pub returns-in-Some-File : goal.returns-in-Some-File
unfolding is_file node_at
returns-in-Some-File c = grind (arith, common_steps)

pub returns-in-None : goal.returns-in-None
unfolding is_file node_at
returns-in-None c = grind (arith, common_steps)
