use Rattle.std.proofs.Common.{◌≡◌, take}
use Rattle.fix_site.proofs.block.Blocks.copy.Given as goal

abbrev pub invariant-loop-block : goal.invariant-loop-block
invariant-loop-block l = l.copies.items ≡ take l.block-index l.block-items
