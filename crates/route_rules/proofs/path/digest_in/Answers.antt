use Rattle.route_rules.proofs.Values.{no_files, spells_digest}
use Rattle.route_rules.proofs.path.digest_in.Goals as goal

pub returns-in_err-digest : goal.returns-in_err-digest
returns-in_err-digest c = rw c.from_residual.ensures (no_files c.args.path.now c.after.result c.after.ensures c.in_err-digest.was)

pub returns : goal.returns
returns c = spells_digest c.args.path.now c.in_ok-digest.digest.now c.read_digest.result c.in_ok-digest.ensures c.read_digest.ensures
