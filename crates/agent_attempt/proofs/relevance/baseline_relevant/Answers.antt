use Rattle.agent_attempt.specs.declared.found.Found.TheVariants.{Yes}
use Rattle.agent_attempt.proofs.Asked.{and_stops, some_ids}
use Rattle.agent_attempt.proofs.relevance.baseline_relevant.Goals as goal

pub returns-in-Yes : goal.returns-in-Yes
returns-in-Yes g c = (Yes, _, c.in-Yes.ensures, some_ids _ _ c.args.baseline.now.components _ _ _ _ c.components.ensures c.some_relevant.ensures)

pub returns-in_default : goal.returns-in_default
returns-in_default g c = (c.ask.result, _, c.ask.ensures, and_stops c.ask.result _ _ c.in_default.not-Yes)
