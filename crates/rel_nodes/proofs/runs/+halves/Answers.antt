use Rattle.std.proofs.Common.{arith, map, take}
use Rattle.std.proofs.lemmas.Result.{IfOk-weaker}
use Rattle.std.specs.Vec.Iter.{into_iter_items}
use Rattle.rel_trace.specs.Twos.{two_kind}
use Rattle.rel_nodes.specs.Core.{two_core}
use Rattle.rel_nodes.specs.Nodes.{boxed_shape}
use Rattle.rel_nodes.specs.Runs.{joined, joint_kind}
use Rattle.rel_nodes.proofs.Alikes.{on_same}
use Rattle.rel_nodes.proofs.Halving.{halves_one, halves_left, halves_made, halves_rest}
use Rattle.rel_nodes.proofs.Joining.{associates}
use Rattle.rel_nodes.proofs.runs.+halves.Goals as goal

pub returns-in-Some-clause-node : goal.returns-in-Some-clause-node
returns-in-Some-clause-node t c = halves_one (joint_kind c.args.joint) c.in-Some.node (into_iter_items c.args.nodes.now) (into_iter_items c.next.new.self) c.args.count (omega arith) c.in-Some.ensures.items

pub returns-in-Some-clause-rest : goal.returns-in-Some-clause-rest
returns-in-Some-clause-rest t c = halves_left c.in-Some.node (into_iter_items c.args.nodes.now) (into_iter_items c.next.new.self) c.args.count (omega arith) c.in-Some.ensures.items

pub returns-clause-node : goal.returns-clause-node
returns-clause-node t c =
    on_same c.with_two.result (two_core (two_kind c.two.result) (boxed_shape c.in_ok-first.first) (boxed_shape c.in_ok-second.second)) (joined (joint_kind c.args.joint) (map boxed_shape (take c.args.count (into_iter_items c.args.nodes.now)))) c.with_two.ensures
    (halves_made (joint_kind c.args.joint) (two_kind c.two.result) (associates c.args.joint) (boxed_shape c.in_ok-first.first) (boxed_shape c.in_ok-second.second) (into_iter_items c.args.nodes.now) (into_iter_items c.halves.new.nodes) c.args.count _
    (omega arith) (omega arith) (omega arith) c.in_ok-first.ensures.rest c.two.ensures c.in_ok-first.ensures.node c.in_ok-second.ensures.node)

pub returns-clause-rest : goal.returns-clause-rest
returns-clause-rest t c =
    IfOk-weaker c.with_two.result _ _
    (λ n e. halves_rest (into_iter_items c.args.nodes.now) (into_iter_items c.halves.new.nodes) (into_iter_items c.halves-2.new.nodes) c.args.count _ (omega arith) c.in_ok-first.ensures.rest c.in_ok-second.ensures.rest)
    c.with_two.ensures
