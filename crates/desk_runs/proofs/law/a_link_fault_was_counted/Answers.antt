use Rattle.desk_runs.proofs.CountingFiles.{link_fault_counted}
use Rattle.desk_runs.proofs.law.a_link_fault_was_counted.Goals as goal

pub returns : goal.returns
returns c = link_fault_counted
