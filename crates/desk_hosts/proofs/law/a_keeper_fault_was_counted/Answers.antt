use Rattle.desk_hosts.proofs.HostLemmas.{fault_counted}
use Rattle.desk_hosts.proofs.law.a_keeper_fault_was_counted.Goals as goal

pub returns : goal.returns
returns c = fault_counted
