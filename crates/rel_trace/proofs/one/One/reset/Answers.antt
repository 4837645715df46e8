use Rattle.rel_trace.proofs.one.One.reset.Goals as goal

pub returns-in-Fold-clause-rest : goal.returns-in-Fold-clause-rest
returns-in-Fold-clause-rest c = rw c.in-Fold.is (λ s offset t. c.reset-in-Fold.ensures.rest s offset t)
