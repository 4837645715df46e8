-- How far down the forms of a plan go. A step goes down by it.
use Rattle.std.proofs.Common.{ℕ, ◌+◌}
use Rattle.rel_nodes.specs.Core.{Core, one_core, two_core, choice_core}

abbrev pub levels : Core → ℕ
levels (one_core k c) = levels c + 1
levels (two_core k c d) = levels c + levels d + 1
levels (choice_core t y n) = levels t + levels y + levels n + 1
levels _ = 0
