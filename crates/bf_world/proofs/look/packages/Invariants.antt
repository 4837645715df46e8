use Rattle.std.proofs.Common.{◌≡◌, ◌++◌, map}
use Rattle.bf_world.specs.Maps.{by_bytes}
use Rattle.bf_world.specs.Shown.{package_row}
use Rattle.bf_world.proofs.look.packages.Given as goal

-- the rows so far and those of what is left are all rows
abbrev pub invariant-loop-name : goal.invariant-loop-name
invariant-loop-name l = l.rows.items ++ map package_row (by_bytes l.name-iterator) ≡ map package_row l.packages
