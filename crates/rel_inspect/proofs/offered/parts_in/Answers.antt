use Rattle.std.proofs.Common.{◌≡◌, map, Some, sym, ap, ◌∙◌}
use Rattle.rel_value.specs.Plain.{tuple}
use Rattle.rel_value.specs.Views.{shown, shown_parts}
use Rattle.rel_value.proofs.Tuples.{shown-tuple}
use Rattle.rel_inspect.specs.Facets.{offered}
use Rattle.rel_inspect.specs.Offered.{parts_in}
use Rattle.rel_inspect.proofs.Tuples.{parts-are}
use Rattle.rel_inspect.proofs.offered.parts_in.Goals as goal

pub returns-in-Tuple : goal.returns-in-Tuple
returns-in-Tuple c =
    let there : offered c.args.value ≡ Some (shown c.in_ok-parts.field-0.now) = ap offered c.in_ok-parts.was in
    let is : shown c.in_ok-parts.field-0.now ≡ tuple (shown_parts c.in-Tuple.parts) = ap shown c.in-Tuple.is ∙ shown-tuple c.in-Tuple.parts in
    sym (ap parts_in (there ∙ ap Some is) ∙ ap Some (parts-are c.in-Tuple.parts ∙ ap (map shown) (sym c.as_slice.ensures)))
