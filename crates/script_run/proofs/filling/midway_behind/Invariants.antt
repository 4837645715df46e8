use Rattle.std.proofs.Common.{◌≡◌, drop}
use Rattle.script_run.specs.Fills.{asks_after}
use Rattle.script_run.proofs.filling.midway_behind.Given as goal

abbrev pub invariant-loop-part : goal.invariant-loop-part
invariant-loop-part l = asks_after l.fn.midway l.part-items ≡ asks_after l.fn.midway (drop l.part-index l.part-items)
