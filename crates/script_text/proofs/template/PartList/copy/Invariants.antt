use Rattle.std.proofs.Common.{◌≡◌, take}
use Rattle.script_text.proofs.template.PartList.copy.Given as goal

abbrev pub invariant-loop-part : goal.invariant-loop-part
invariant-loop-part l = l.copies.items ≡ take l.part-index l.part-items
