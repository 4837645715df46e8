use Rattle.rel_types.proofs.Agreements.{agrees}
use Rattle.rel_types.proofs.laws.plans_agree.Goals as goal

pub returns : goal.returns
returns c = agrees
