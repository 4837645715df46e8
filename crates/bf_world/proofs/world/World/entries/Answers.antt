use Rattle.std.proofs.Common.{arith}
use Rattle.std.proofs.lemmas.Grind.{common_steps}
use Rattle.bf_world.specs.Shown.{entries_in}
use Rattle.bf_world.proofs.world.World.entries.Goals as goal

pub returns : goal.returns
unfolding entries_in
returns c = grind (arith, common_steps)
