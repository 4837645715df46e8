use Rattle.std.proofs.Common.{◌≡◌, ◌++◌}
use Rattle.std.specs.Map.{keys_of}
use Rattle.bf_world.specs.Maps.{by_bytes}
use Rattle.bf_world.proofs.look.names.Given as goal

-- the names so far and those that are left are all names
abbrev pub invariant-loop-name : goal.invariant-loop-name
invariant-loop-name l = l.names.items ++ keys_of (by_bytes l.name-iterator) ≡ keys_of l.processes
