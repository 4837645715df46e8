use Rattle.std.proofs.Common.{arith, refl}
use Rattle.std.specs.Vec.Iter.{into_iter_items}
use Rattle.rel_trace.specs.Twos.{two_kind}
use Rattle.rel_nodes.specs.Core.{two_core}
use Rattle.rel_nodes.specs.Nodes.{boxed_shape}
use Rattle.rel_nodes.specs.Runs.{joint_kind, run_core}
use Rattle.rel_nodes.proofs.Alikes.{on_same}
use Rattle.rel_nodes.proofs.Halving.{run_alone, run_whole}
use Rattle.rel_nodes.proofs.Joining.{associates}
use Rattle.rel_nodes.proofs.runs.Run.whole.Goals as goal

pub returns-then-count-eq0 : goal.returns-then-count-eq0
returns-then-count-eq0 c = run_alone (joint_kind c.args.self.joint) (boxed_shape c.args.self.first) c.args.self.rest.items (omega arith)

pub returns : goal.returns
returns c =
    let first = boxed_shape c.args.self.first in
    let rest = boxed_shape c.in_ok-rest.rest in
    let made = two_core (two_kind c.two.result) first rest in
    on_same c.with_two.result made (run_core c.args.self) c.with_two.ensures
    (run_whole (joint_kind c.args.self.joint) (associates c.args.self.joint) first rest made (two_kind c.two.result) (into_iter_items c.into_iter-nodes.result) c.args.self.rest.items c.len-count.result
    (omega arith) (omega arith) (omega arith) c.into_iter-nodes.ensures.rest c.two.ensures refl c.in_ok-rest.ensures.node)
