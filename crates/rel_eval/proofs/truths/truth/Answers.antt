use Rattle.std.proofs.Common.{ap}
use Rattle.rel_eval.specs.Singles.{judged}
use Rattle.rel_eval.proofs.Singles.{judges_at}
use Rattle.rel_eval.proofs.truths.truth.Goals as goal

pub returns-clause-judges : goal.returns-clause-judges
returns-clause-judges g c = λ p k w h.
    let at = c.span-span.ensures in
    judges_at _ _ _ _ _ _ _ (ap judged at) (c.one_value.ensures.goes w h) c.told.ensures.tells

pub returns-clause-cause : goal.returns-clause-cause
returns-clause-cause g c = rw c.told.ensures.failed c.one_value.ensures.cause
