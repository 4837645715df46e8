-- The state does what its form alone does.
use Rattle.rel_trace.proofs.two.Two.after_second.Goals as goal

pub returns-in-Sequence-clause-goes : goal.returns-in-Sequence-clause-goes
returns-in-Sequence-clause-goes c = λ l l' a b b' f s. rw c.in-Sequence.is (λ h. c.after_second.ensures.goes l l' a b b' f s h)

pub returns-in-Handing-clause-goes : goal.returns-in-Handing-clause-goes
returns-in-Handing-clause-goes c = λ l l' a b b' f s. rw c.in-Handing.is (λ h. c.after_second-in-Handing.ensures.goes l l' a b b' f s h)

pub returns-in-Filter-clause-falls : goal.returns-in-Filter-clause-falls
returns-in-Filter-clause-falls c = λ q r r' n h. rw c.in-Filter.is (c.after_second-in-Filter.ensures.falls q r r' n h)
