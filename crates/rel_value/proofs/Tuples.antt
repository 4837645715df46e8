-- What a tuple of the code shows. Other crates may cite this lemma.
use Rattle.std.proofs.Common.{◌≡◌, sym, ap, ◌∙◌}
use Rattle.rel_value.specs.declared.value.Values.{Values}
use Rattle.rel_value.specs.declared.value.Value.TheVariants.{Tuple, rolls-Tuple}
use Rattle.rel_value.specs.declared.value.Value.TheOpen as layer
use Rattle.rel_value.specs.declared.value.Value.TheFolds.{fold-roll-Value}
use Rattle.rel_value.specs.Plain.{Plain, tuple, Parts}
use Rattle.rel_value.specs.Views.{value_step, values_step, shown, shown_parts}

pub shown-tuple : (l : Values) → shown (Tuple l) ≡ tuple (shown_parts l)
shown-tuple l = ap shown (sym (rolls-Tuple l)) ∙ fold-roll-Value Plain Parts value_step values_step (layer.Tuple l)
