use Rattle.rel_eval.proofs.Opened.{opens}
use Rattle.rel_eval.proofs.question.Question.open.Goals as goal

pub returns-clause-rest : goal.returns-clause-rest
returns-clause-rest c = λ w.
    opens w _ _ _ _ _ _ c.new.ensures.node c.new.ensures.scene c.new.ensures.budget c.new.ensures.state c.in_ok-kept.ensures (c.in_ok-node.ensures w c.args.scene.now) c.root.ensures.node
