use Rattle.std.proofs.Common.{◌≡◌, ap, subst, sym, ◌∙◌}
use Rattle.rel_value.specs.Plain.{Plain, tuple}
use Rattle.rel_value.specs.Views.{shown, shown_parts}
use Rattle.rel_value.proofs.Tuples.{shown-tuple}
use Rattle.rel_trace.specs.Joins.{appended, parts_then}
use Rattle.rel_trace.specs.Works.{Works}
use Rattle.rel_trace.proofs.joining.behind.Goals as goal

pub returns-in-Tuple : goal.returns-in-Tuple
returns-in-Tuple c =
    let is : shown c.args.later.now ≡ tuple (shown_parts c.in-Tuple.parts) = ap shown c.in-Tuple.is ∙ shown-tuple c.in-Tuple.parts in
    subst (λ (p : Plain). Works (appended (shown_parts c.args.earlier.now) p) c.tuple.result) (sym is)
    (c.tuple.ensures (parts_then (shown_parts c.args.earlier.now) (shown_parts c.in-Tuple.parts)) c.together.ensures.same)
