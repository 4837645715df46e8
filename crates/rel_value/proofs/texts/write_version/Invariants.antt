use Rattle.std.proofs.Common.{◌≡◌, ◌++◌, take}
use Rattle.rel_value.specs.Texts.{version_text}
use Rattle.rel_value.proofs.texts.write_version.Given as goal

abbrev pub invariant-loop-i : goal.invariant-loop-i
invariant-loop-i l = l.out ≡ l.fn.out ++ version_text (take l.i l.numbers)
