use Rattle.server_core.proofs.KeptSites.{version_counted}
use Rattle.server_core.proofs.law.actionsite_counts_actions_and_stops.Goals as goal

pub returns : goal.returns
returns c = version_counted
