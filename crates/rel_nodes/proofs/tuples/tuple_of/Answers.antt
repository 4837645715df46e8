use Rattle.std.proofs.Common.{ap, arith}
use Rattle.std.proofs.lemmas.Result.{IfOk-weaker}
use Rattle.std.specs.Vec.Iter.{into_iter_items}
use Rattle.rel_nodes.specs.Core.{core}
use Rattle.rel_nodes.specs.Nodes.{boxed_shape, shape}
use Rattle.rel_nodes.proofs.TupleParts.{all_parts, leftless_same, no_part}
use Rattle.rel_nodes.proofs.tuples.tuple_of.Goals as goal

pub returns-then-count-eq0 : goal.returns-then-count-eq0
returns-then-count-eq0 c =
    IfOk-weaker c.on_heap.result _ _
    (λ n e. no_part (boxed_shape n) c.args.parts.items (omega arith) (λ w s a. ap (λ m. core w s (shape m) a) e))
    c.on_heap.ensures

pub together-requires-clause-leftless : goal.together-requires-clause-leftless
together-requires-clause-leftless c = leftless_same (into_iter_items c.into_iter-rest.result) c.args.parts.items c.into_iter-rest.ensures.rest c.requires

pub returns : goal.returns
returns c =
    all_parts c.in_ok-whole.whole (into_iter_items c.into_iter-rest.result) c.args.parts.items c.len-count.result (omega arith) c.into_iter-rest.ensures.rest c.in_ok-whole.ensures.whole
