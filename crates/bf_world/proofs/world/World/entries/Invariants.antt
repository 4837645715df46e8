use Rattle.std.proofs.Common.{◌≡◌, ◌++◌}
use Rattle.std.specs.List.{filter_map}
use Rattle.bf_world.specs.Maps.{by_bytes}
use Rattle.bf_world.specs.Shown.{entry_in}
use Rattle.bf_world.proofs.world.World.entries.Given as goal

-- the entries so far and those of what is left are all entries
abbrev pub invariant-loop-path : goal.invariant-loop-path
invariant-loop-path l =
    l.entries.items ++ filter_map (entry_in l.folder) (by_bytes l.path-iterator) ≡ filter_map (entry_in l.folder) l.self.paths
