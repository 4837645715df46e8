-- What was put behind so far.
use Rattle.std.proofs.Common.{◌≡◌, map, take}
use Rattle.rel_value.specs.Views.{parted, shown, shown_parts}
use Rattle.rel_trace.proofs.joining.together.Given as goal

abbrev pub invariant-loop-value : goal.invariant-loop-value
invariant-loop-value l = shown_parts l.parts ≡ parted (shown_parts l.earlier) (map shown (take l.value-index l.value-items))
