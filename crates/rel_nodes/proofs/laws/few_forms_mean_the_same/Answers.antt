use Rattle.rel_nodes.proofs.Means.{means}
use Rattle.rel_nodes.proofs.laws.few_forms_mean_the_same.Goals as goal

pub returns : goal.returns
returns c = means
