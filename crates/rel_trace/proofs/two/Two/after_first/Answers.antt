-- The state does what its form alone does.
use Rattle.rel_trace.proofs.two.Two.after_first.Goals as goal

pub returns-in-Sequence-clause-goes : goal.returns-in-Sequence-clause-goes
returns-in-Sequence-clause-goes c = λ l l' t t' b f s h. rw c.in-Sequence.is (c.after_first.ensures.goes l l' t t' b f s h)

pub returns-in-Handing-clause-goes : goal.returns-in-Handing-clause-goes
returns-in-Handing-clause-goes c = λ l l' t t' b f s h. rw c.in-Handing.is (c.after_first-in-Handing.ensures.goes l l' t t' b f s h)
