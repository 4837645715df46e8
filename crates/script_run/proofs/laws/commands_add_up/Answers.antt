use Rattle.script_run.proofs.Counted.{commands_added_up}
use Rattle.script_run.proofs.laws.commands_add_up.Goals as goal

pub returns : goal.returns
returns c = commands_added_up
