use Rattle.std.proofs.Common.{◌≡◌, take}
use Rattle.bf_world.specs.Done.{given}
use Rattle.bf_world.proofs.world.World.packages_with.Given as goal

abbrev pub invariant-loop-row : goal.invariant-loop-row
invariant-loop-row l = l.packages ≡ given (take l.row-index l.gives) l.self.packages
