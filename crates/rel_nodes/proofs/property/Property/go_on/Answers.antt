use Rattle.rel_nodes.proofs.property.Property.go_on.Goals as goal

pub returns-in-None-clause-steps : goal.returns-in-None-clause-steps
returns-in-None-clause-steps g c = c.begin.ensures.steps _ _ _

pub returns-in-Some-clause-steps : goal.returns-in-Some-clause-steps
returns-in-Some-clause-steps g c = rw c.in-Some.is c.step.ensures
