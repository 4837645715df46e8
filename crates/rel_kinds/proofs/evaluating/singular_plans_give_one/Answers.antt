use Rattle.rel_kinds.proofs.Checked.{plans-give}
use Rattle.rel_kinds.proofs.Evaluations.{parts-give}
use Rattle.rel_kinds.proofs.evaluating.singular_plans_give_one.Goals as goal

pub returns-clause-parts : goal.returns-clause-parts
returns-clause-parts c = parts-give

pub returns-clause-plans : goal.returns-clause-plans
returns-clause-plans c = plans-give c.plans_agree.ensures
