use Rattle.desk_runs.proofs.CountingRuns.{rounds_counted}
use Rattle.desk_runs.proofs.law.what_ends_rounds_was_counted.Goals as goal

pub returns : goal.returns
returns c = rounds_counted
