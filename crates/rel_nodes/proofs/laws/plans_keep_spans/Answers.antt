use Rattle.rel_nodes.proofs.Keeping.{plans_keep}
use Rattle.rel_nodes.proofs.laws.plans_keep_spans.Goals as goal

pub returns : goal.returns
returns c = plans_keep
