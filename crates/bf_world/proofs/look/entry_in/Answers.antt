use Rattle.std.proofs.Common.{arith}
use Rattle.std.proofs.lemmas.Grind.{common_steps}
use Rattle.bf_world.specs.Shown.{entry_in}
use Rattle.bf_world.proofs.look.entry_in.Goals as goal

pub returns-then-not-is_part : goal.returns-then-not-is_part
unfolding entry_in
returns-then-not-is_part c = grind (arith, common_steps)

pub returns-then-ne : goal.returns-then-ne
unfolding entry_in
returns-then-ne c = grind (arith, common_steps)

pub returns : goal.returns
unfolding entry_in
returns c = grind (arith, common_steps)
