use Rattle.std.proofs.Common.{ap}
use Rattle.rel_nodes.specs.Nodes.{boxed_shape}
use Rattle.rel_nodes.specs.Runs.{joint_kind, run_core}
use Rattle.rel_nodes.proofs.Forms.{two_on}
use Rattle.rel_nodes.proofs.Joining.{same}
use Rattle.rel_nodes.proofs.runs.Run.with.Goals as goal

pub returns : goal.returns
returns c =
    two_on (joint_kind c.in_ok-run.run'.joint) (joint_kind c.args.joint) _ (run_core c.in_ok-run.run') (run_core c.args.self) (boxed_shape c.args.node) (boxed_shape c.args.node)
    c.in_ok-push.ensures (ap joint_kind c.in_ok-run.ensures.joint) c.in_ok-run.ensures.same (same (boxed_shape c.args.node))
