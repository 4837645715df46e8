use Rattle.desk_hosts.proofs.HostLemmas.{file_digest}
use Rattle.desk_hosts.proofs.law.a_file_has_its_digest.Goals as goal

pub returns : goal.returns
returns c = file_digest c.one_route.ensures
