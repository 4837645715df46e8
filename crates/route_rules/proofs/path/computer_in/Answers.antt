use Rattle.route_rules.proofs.Values.{no_results, spells_computer}
use Rattle.route_rules.proofs.path.computer_in.Goals as goal

pub returns-in_err-name : goal.returns-in_err-name
returns-in_err-name c = rw c.from_residual.ensures (no_results c.args.path.now c.after.result c.after.ensures c.in_err-name.was)

pub returns : goal.returns
returns c = spells_computer c.args.path.now c.in_ok-name.name.now c.read_name.result c.in_ok-name.ensures c.read_name.ensures
