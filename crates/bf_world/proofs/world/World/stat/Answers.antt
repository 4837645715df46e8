use Rattle.std.proofs.Common.{arith}
use Rattle.std.proofs.lemmas.Grind.{common_steps}
use Rattle.std.proofs.lemmas.Int.{ints, to_z-of_z}
use Rattle.bf_world.specs.Places.{node_at}
use Rattle.bf_world.proofs.world.World.stat.Goals as goal

pub returns-then-eq : goal.returns-then-eq
unfolding node_at
returns-then-eq c = grind (arith, common_steps)

pub returns-in-None : goal.returns-in-None
unfolding node_at
returns-in-None c = grind (arith, common_steps)

pub returns-in-Some-Folder : goal.returns-in-Some-Folder
unfolding node_at
returns-in-Some-Folder c = grind (arith, common_steps)

pub returns-in-Some-File : goal.returns-in-Some-File
unfolding node_at
returns-in-Some-File c = grind (arith, common_steps, ints, to_z-of_z)
