use Rattle.desk_hosts.proofs.HostLemmas.{relay_none_found, server_none_found}
use Rattle.desk_hosts.proofs.law.what_has_no_route_is_no_such.Goals as goal

pub returns-clause-server : goal.returns-clause-server
returns-clause-server c = server_none_found c.one_route.ensures

pub returns-clause-relay : goal.returns-clause-relay
returns-clause-relay c = relay_none_found c.one_route.ensures
