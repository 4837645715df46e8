use Rattle.server_core.proofs.KeptResults.{results_shown}
use Rattle.server_core.proofs.law.the_greatest_number_is_kept.Goals as goal

pub returns : goal.returns
returns c = results_shown
