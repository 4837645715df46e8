use Rattle.agent_attempt.proofs.Rules.{asked_some}
use Rattle.agent_attempt.proofs.clause.ask_given.Goals as goal

pub returns-in-Some : goal.returns-in-Some
returns-in-Some g c = λ text e. asked_some _ text c.in-Some.clause c.args.clause.now _ _ _ c.in-Some.is e c.ask.ensures

pub returns-in-None : goal.returns-in-None
returns-in-None g c = λ text e. let none = c.in-None.is in absurd (cc)
