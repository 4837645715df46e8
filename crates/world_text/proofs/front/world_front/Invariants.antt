use Rattle.std.proofs.Common.{◌-◌, ◌≤◌, length, take}
use Rattle.world_text.proofs.Splitting.{IsBehind}
use Rattle.world_text.proofs.front.world_front.Given as goal

-- what was passed over is lines, and none of them is `end`
abbrev pub invariant-loop-length : goal.invariant-loop-length
invariant-loop-length l = record {
  within : l.at ≤ length l.text;
  behind : IsBehind (take l.at l.text);
}

abbrev pub decreases-loop-length : goal.decreases-loop-length
decreases-loop-length l = length l.text - l.at
