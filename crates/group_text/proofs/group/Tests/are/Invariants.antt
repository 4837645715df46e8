use Rattle.std.proofs.Common.{◌≡◌, length, take}
use Rattle.group_text.proofs.group.Tests.are.Given as goal

-- the tests so far are the same
abbrev pub invariant-loop-i : goal.invariant-loop-i
invariant-loop-i l = record {
  long : length l.tests ≡ length l.others;
  same : take l.i l.tests ≡ take l.i l.others;
}
