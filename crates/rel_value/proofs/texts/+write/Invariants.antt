use Rattle.std.proofs.Common.{◌≡◌, ◌++◌, map, take}
use Rattle.rel_value.specs.Plain.{no_parts}
use Rattle.rel_value.specs.Texts.{texts_of}
use Rattle.rel_value.specs.Views.{shown, parted, value_items}
use Rattle.rel_value.proofs.texts.+write.Given as goal

abbrev pub invariant-write_parts-loop-i : goal.invariant-write_parts-loop-i
invariant-write_parts-loop-i l =
    l.out ≡ l.fn.out ++ texts_of l.zone.offset (parted no_parts (map shown (take l.i (value_items l.parts))))
