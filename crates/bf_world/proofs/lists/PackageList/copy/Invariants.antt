use Rattle.std.proofs.Common.{◌≡◌, take}
use Rattle.bf_world.proofs.lists.PackageList.copy.Given as goal

abbrev pub invariant-loop-package : goal.invariant-loop-package
invariant-loop-package l = l.copies.items ≡ take l.package-index l.package-items
