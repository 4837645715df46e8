use Rattle.rel_trace.proofs.Hands.{handed-whole}
use Rattle.rel_trace.proofs.handing.Handing.reset.Goals as goal

pub returns-clause-rest : goal.returns-clause-rest
returns-clause-rest c = λ a b f s. rw c.take.ensures.after (handed-whole c.args.self.now.hand a f s)
