use Rattle.rel_nodes.specs.Nodes.{boxed_shape}
use Rattle.rel_nodes.specs.Runs.{joint_kind}
use Rattle.rel_nodes.proofs.Halving.{run_push}
use Rattle.rel_nodes.proofs.runs.Run.push.Goals as goal

pub returns : goal.returns
returns c = run_push (joint_kind c.args.self.now.joint) (boxed_shape c.args.self.now.first) c.args.node c.args.self.now.rest.items _ c.in_ok-push.ensures.items
