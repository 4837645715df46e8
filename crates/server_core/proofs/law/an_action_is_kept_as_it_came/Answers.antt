use Rattle.server_core.proofs.KeptActions.{actions_shown}
use Rattle.server_core.proofs.law.an_action_is_kept_as_it_came.Goals as goal

pub returns : goal.returns
returns c = actions_shown
