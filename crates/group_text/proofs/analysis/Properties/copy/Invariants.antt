use Rattle.std.proofs.Common.{◌≡◌, take}
use Rattle.group_text.proofs.analysis.Properties.copy.Given as goal

abbrev pub invariant-loop-property : goal.invariant-loop-property
invariant-loop-property l = l.copies.items ≡ take l.property-index l.property-items
