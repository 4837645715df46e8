use Rattle.std.proofs.Common.{◌≡◌, ◌++◌, take}
use Rattle.std.specs.Prelude.{flat_map}
use Rattle.look_text.specs.Texts.{row_text}
use Rattle.look_text.proofs.shown.write_packages.Given as goal

-- the texts of the packages so far were written
abbrev pub invariant-loop-package : goal.invariant-loop-package
invariant-loop-package l = l.words ≡ l.initial.words ++ flat_map row_text (take l.package-index l.packages)
