use Rattle.desk_runs.proofs.CountingRelays.{relayed_counted}
use Rattle.desk_runs.proofs.law.what_ends_a_relay_was_counted.Goals as goal

pub returns : goal.returns
returns c = relayed_counted
