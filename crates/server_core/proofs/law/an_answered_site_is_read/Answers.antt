use Rattle.server_core.proofs.AnsweredSites.{actions_answered, site_answered}
use Rattle.server_core.proofs.law.an_answered_site_is_read.Goals as goal

pub returns-clause-site : goal.returns-clause-site
returns-clause-site c = site_answered c.actionsite_is_a_site.ensures

pub returns-clause-actions : goal.returns-clause-actions
returns-clause-actions c = actions_answered c.actionsite_is_a_site.ensures c.one_site.ensures c.one_action.ensures
