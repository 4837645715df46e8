use Rattle.std.proofs.Common.{◌≡◌, ◌++◌}
use Rattle.bf_world.specs.Maps.{by_bytes}
use Rattle.group_sample.proofs.moments.copy.Given as goal

-- the copies so far and what is left are all entries
abbrev pub invariant-loop-name : goal.invariant-loop-name
invariant-loop-name l = l.copies ++ by_bytes l.name-iterator ≡ l.moments
