use Rattle.std.proofs.Common.{◌≡◌, drop}
use Rattle.rel_nodes.specs.Spans.{casts_end}
use Rattle.rel_nodes.proofs.spans.casts_end.Given as goal

abbrev pub invariant-loop-cast : goal.invariant-loop-cast
invariant-loop-cast l = casts_end l.at (drop l.cast-index l.cast-items) ≡ casts_end l.fn.at l.fn.casts
