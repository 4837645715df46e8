use Rattle.std.proofs.Common.{◌≡◌, ◌++◌, map}
use Rattle.bf_world.specs.Maps.{by_bytes}
use Rattle.bf_world.specs.Shown.{setting_row}
use Rattle.bf_world.proofs.look.settings.Given as goal

-- the rows so far and those of what is left are all rows
abbrev pub invariant-loop-name : goal.invariant-loop-name
invariant-loop-name l = l.rows.items ++ map setting_row (by_bytes l.name-iterator) ≡ map setting_row l.settings
