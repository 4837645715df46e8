use Rattle.std.proofs.Common.{◌≡◌, length, take}
use Rattle.group_core.specs.Books.{new_ones}
use Rattle.group_core.proofs.adding.count_new.Given as goal

-- those so far are counted
abbrev pub invariant-loop-property : goal.invariant-loop-property
invariant-loop-property l = l.count ≡ length (new_ones l.kept (take l.property-index l.properties))
