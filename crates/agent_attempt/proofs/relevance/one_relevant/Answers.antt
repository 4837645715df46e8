use Rattle.agent_attempt.proofs.Asked.{one_fixlet, none_fixlet}
use Rattle.agent_attempt.proofs.relevance.one_relevant.Goals as goal

pub returns-in-Some : goal.returns-in-Some
returns-in-Some g c = one_fixlet _ c.args.site.now.blocks c.args.id c.in-Some.fixlet.now _ _ _ c.in-Some.ensures c.is_relevant.ensures

pub returns-in-None : goal.returns-in-None
returns-in-None g c = none_fixlet _ c.args.site.now.blocks c.args.id _ c.in-None.ensures
