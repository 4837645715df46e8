use Rattle.std.proofs.Common.{◌≡◌, take}
use Rattle.script_text.proofs.prefetch.PrefetchList.copy.Given as goal

abbrev pub invariant-loop-prefetch : goal.invariant-loop-prefetch
invariant-loop-prefetch l = l.copies.items ≡ take l.prefetch-index l.prefetch-items
