use Rattle.desk_runs.proofs.TurningRounds.{round_turns_once}
use Rattle.desk_runs.proofs.law.a_round_turns_once.Goals as goal

pub returns : goal.returns
returns c = round_turns_once
