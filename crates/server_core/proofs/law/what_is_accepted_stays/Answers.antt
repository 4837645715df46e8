use Rattle.server_core.proofs.Staying.{stays}
use Rattle.server_core.proofs.law.what_is_accepted_stays.Goals as goal

pub returns : goal.returns
returns c = stays
