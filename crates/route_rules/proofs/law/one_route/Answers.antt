use Rattle.route_rules.proofs.Routing.{one_route}
use Rattle.route_rules.proofs.law.one_route.Goals as goal

pub returns : goal.returns
returns c = one_route
