use Rattle.std.proofs.Common.{◌≡◌, ap, subst, sym, ◌∙◌}
use Rattle.rel_value.specs.Plain.{Parts, Plain, more_parts, tuple}
use Rattle.rel_value.specs.Views.{shown, shown_parts}
use Rattle.rel_value.proofs.Tuples.{shown-tuple}
use Rattle.rel_trace.specs.declared.joining.Joining.TheVariants.{Push}
use Rattle.rel_trace.specs.Joins.{tied}
use Rattle.rel_trace.specs.Works.{Works}
use Rattle.rel_trace.proofs.joining.pushed.Goals as goal

pub returns-in-Tuple : goal.returns-in-Tuple
returns-in-Tuple c =
    let is : shown c.args.earlier.now ≡ tuple (shown_parts c.in-Tuple.parts) = ap shown c.in-Tuple.is ∙ shown-tuple c.in-Tuple.parts in
    subst (λ (p : Plain). Works (tied Push p c.args.later.now) c.tuple.result) (sym is)
    (c.tuple.ensures (more_parts (shown_parts c.in-Tuple.parts) c.args.later.now) c.lengthened.ensures.same)
