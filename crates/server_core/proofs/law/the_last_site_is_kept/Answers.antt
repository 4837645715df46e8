use Rattle.server_core.proofs.KeptSites.{sites_shown}
use Rattle.server_core.proofs.law.the_last_site_is_kept.Goals as goal

pub returns : goal.returns
returns c = sites_shown
