-- How far down a pure part goes.
use Rattle.std.proofs.Common.{◌+◌, ◌*◌}
use Rattle.rel_nodes.specs.Nodes.{pure_shape}
use Rattle.rel_nodes.proofs.Levels.{levels}
use Rattle.rel_nodes.proofs.pure.+tell.Given as goal

abbrev pub decreases-Pure::tell : goal.decreases-Pure::tell
decreases-Pure::tell l = 2 * levels (pure_shape l.self.now)

abbrev pub decreases-applied : goal.decreases-applied
decreases-applied l = 2 * levels (pure_shape l.part.now) + 1

abbrev pub decreases-single : goal.decreases-single
decreases-single l = 2 * levels (pure_shape l.part.now) + 1

abbrev pub decreases-joined : goal.decreases-joined
decreases-joined l = 2 * (levels (pure_shape l.first.now) + levels (pure_shape l.second.now)) + 1
