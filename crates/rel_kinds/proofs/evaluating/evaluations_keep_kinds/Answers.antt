use Rattle.rel_kinds.proofs.Checked.{plans-keep}
use Rattle.rel_kinds.proofs.Evaluations.{parts-keep}
use Rattle.rel_kinds.proofs.evaluating.evaluations_keep_kinds.Goals as goal

pub returns-clause-parts : goal.returns-clause-parts
returns-clause-parts c = parts-keep

pub returns-clause-plans : goal.returns-clause-plans
returns-clause-plans c = plans-keep c.plans_agree.ensures
