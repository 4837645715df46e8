use Rattle.std.proofs.Common.{◌≡◌, map, take}
use Rattle.rel_value.specs.Views.{shown}
use Rattle.rel_value.proofs.value.+copy_value.Given as goal

abbrev pub invariant-Values::copy-loop-value : goal.invariant-Values::copy-loop-value
invariant-Values::copy-loop-value l = map shown l.items.items ≡ map shown (take l.value-index l.value-items)
