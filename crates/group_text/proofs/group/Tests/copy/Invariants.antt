use Rattle.std.proofs.Common.{◌≡◌, take}
use Rattle.group_text.proofs.group.Tests.copy.Given as goal

abbrev pub invariant-loop-test : goal.invariant-loop-test
invariant-loop-test l = l.copies.items ≡ take l.test-index l.test-items
