use Rattle.std.proofs.Common.{refl}
use Rattle.agent_attempt.proofs.Stepping.{none_is, same_then, goes_none, goes_some, falls_none}
use Rattle.agent_attempt.proofs.GoingPoints.{going_later}
use Rattle.agent_attempt.proofs.attempt.Attempt.go_on.Goals as goal

pub steps-init : goal.steps-init
steps-init g c = record { waits = c.requires.waits; same = record { action = refl; row = refl; offset = refl }; goes = λ answer later after h. h }

pub steps-preserved : goal.steps-preserved
steps-preserved g c = record {
  waits = c.step.ensures.waits;
  same = same_then _ _ _ c.steps.invariant.same c.step.ensures.leaves.same;
  goes = goes_none _ _ _ _ _ _ _ _ (none_is c.step.result c.in_default.not-Some) c.steps.invariant.goes c.step.ensures.steps;
}

pub steps-smaller : goal.steps-smaller
steps-smaller g c = falls_none _ _ _ (none_is c.step.result c.in_default.not-Some) c.step.ensures.leaves.falls

pub returns-in-Some-clause-goes : goal.returns-in-Some-clause-goes
returns-in-Some-clause-goes g c = goes_some _ _ _ _ _ _ _ c.in-Some.went _ c.in-Some.is c.steps.invariant.goes c.step.ensures.steps

pub returns-in-Some-clause-same : goal.returns-in-Some-clause-same
returns-in-Some-clause-same g c = same_then _ _ _ c.steps.invariant.same c.step.ensures.leaves.same

pub returns-in-Some-clause-later : goal.returns-in-Some-clause-later
returns-in-Some-clause-later g c = going_later _ _ _ _ _ _ (goes_some _ _ _ _ _ _ _ c.in-Some.went _ c.in-Some.is c.steps.invariant.goes c.step.ensures.steps)
