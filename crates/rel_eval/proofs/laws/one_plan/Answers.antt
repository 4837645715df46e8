use Rattle.rel_eval.proofs.OnePlan.{reading_is_one}
use Rattle.rel_eval.proofs.laws.one_plan.Goals as goal

pub returns : goal.returns
returns c = reading_is_one
