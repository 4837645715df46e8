use Rattle.std.proofs.Common.{◌≡◌, drop}
use Rattle.rel_sources.specs.Scenes.{value_of}
use Rattle.rel_sources.proofs.pair.Pairs.value_of.Given as goal

abbrev pub invariant-loop-pair : goal.invariant-loop-pair
invariant-loop-pair l = value_of l.name l.pair-items ≡ value_of l.name (drop l.pair-index l.pair-items)
