use Rattle.std.proofs.Common.{◌≡◌, take}
use Rattle.group_sample.proofs.sample.SampledRows.copy.Given as goal

abbrev pub invariant-loop-row : goal.invariant-loop-row
invariant-loop-row l = l.copies.items ≡ take l.row-index l.row-items
