use Rattle.std.proofs.Common.{◌≡◌, ◌++◌}
use Rattle.bf_world.specs.Maps.{by_bytes}
use Rattle.bf_world.proofs.text_map.TextMap.copy.Given as goal

-- the copies so far and what is left are all entries
abbrev pub invariant-loop-key : goal.invariant-loop-key
invariant-loop-key g l = l.copies ++ by_bytes l.key-iterator ≡ l.self
