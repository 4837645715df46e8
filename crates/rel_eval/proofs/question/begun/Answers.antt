use Rattle.rel_types.specs.Views.{shown_node}
use Rattle.rel_eval.specs.Cursors.{alone}
use Rattle.rel_eval.proofs.Opened.{begins}
use Rattle.rel_eval.proofs.question.begun.Goals as goal

pub returns : goal.returns
returns c = λ w s. begins w s c.reset.new.self c.in_ok-node.node (shown_node c.args.plan.now) (c.reset.ensures.rest w s alone) c.in_ok-node.ensures
