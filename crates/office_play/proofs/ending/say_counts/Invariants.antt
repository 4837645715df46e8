use Rattle.std.proofs.Common.{◌≡◌, ◌++◌}
use Rattle.std.specs.Prelude.{flat_map}
use Rattle.bf_world.specs.Maps.{by_bytes}
use Rattle.office_play.specs.Ending.{counted_line}
use Rattle.office_play.proofs.ending.say_counts.Given as goal

-- the lines so far and those that are left are all lines
abbrev pub invariant-loop-name : goal.invariant-loop-name
invariant-loop-name l =
    l.out ++ flat_map (counted_line l.word) (by_bytes l.name-iterator) ≡ l.fn.out ++ flat_map (counted_line l.word) l.counts
