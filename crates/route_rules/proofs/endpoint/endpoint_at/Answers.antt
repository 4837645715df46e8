use Rattle.route_rules.proofs.Routing.{found_endpoint, missing_endpoint}
use Rattle.route_rules.proofs.endpoint.endpoint_at.Goals as goal

pub returns-in-Ok : goal.returns-in-Ok
returns-in-Ok c = found_endpoint c.args.router.now c.args.asking c.args.path.now _ c.requires c.type_inv.path c.in-Ok.ensures.found

pub returns-in-Err : goal.returns-in-Err
returns-in-Err c = missing_endpoint c.args.router.now c.args.asking c.args.path.now c.requires c.in-Err.ensures.missing
