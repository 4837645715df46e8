use Rattle.agent_attempt.specs.declared.found.Found.TheVariants.{Yes}
use Rattle.agent_attempt.proofs.Asked.{and_stops}
use Rattle.agent_attempt.proofs.Quiet.{wanted_quiet}
use Rattle.agent_attempt.proofs.relevance.wanted.Goals as goal

pub returns-in-Yes-clause-wanted : goal.returns-in-Yes-clause-wanted
returns-in-Yes-clause-wanted g c = (Yes, _, c.in-Yes.ensures, c.relevant.ensures.content)

pub returns-in-Yes-clause-asked : goal.returns-in-Yes-clause-asked
returns-in-Yes-clause-asked g c = wanted_quiet _ _ _ _ _ _ _ (returns-in-Yes-clause-wanted g c)

pub returns-in_default-clause-wanted : goal.returns-in_default-clause-wanted
returns-in_default-clause-wanted g c = (c.targets.result, _, c.targets.ensures, and_stops c.targets.result _ _ c.in_default.not-Yes)

pub returns-in_default-clause-asked : goal.returns-in_default-clause-asked
returns-in_default-clause-asked g c = wanted_quiet _ _ _ _ _ _ _ (returns-in_default-clause-wanted g c)
