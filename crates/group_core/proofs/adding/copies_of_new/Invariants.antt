use Rattle.std.proofs.Common.{◌≡◌, take}
use Rattle.group_core.specs.Books.{new_ones}
use Rattle.group_core.proofs.adding.copies_of_new.Given as goal

-- those so far are copied
abbrev pub invariant-loop-property : goal.invariant-loop-property
invariant-loop-property l = l.new.items ≡ new_ones l.kept (take l.property-index l.properties)
