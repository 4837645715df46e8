use Rattle.std.proofs.Common.{◌≡◌, length}
use Rattle.bf_world.specs.Worlds.{WorldState}
use Rattle.rel_inspect.specs.declared.descent.Ahead.TheVariants.{Turn}
use Rattle.rel_inspect.specs.Descents.{descent_left}
use Rattle.rel_inspect.proofs.descent.Descent.turn.Given as goal

abbrev pub invariant-loop-self : goal.invariant-loop-self
invariant-loop-self l = record {
  turn : l.self.ahead ≡ Turn;
  same : (w : WorldState) → descent_left w l.initial.self ≡ descent_left w l.self;
}

abbrev pub decreases-loop-self : goal.decreases-loop-self
decreases-loop-self l = length l.self.above.items
