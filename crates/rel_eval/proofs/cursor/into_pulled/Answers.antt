use Rattle.std.proofs.Common.{[], subst}
use Rattle.rel_trace.specs.declared.step.Step.{Step}
use Rattle.rel_trace.specs.Steps.{AsRoom, Goes}
use Rattle.rel_nodes.specs.Steps.{has_room}
use Rattle.rel_eval.proofs.Stops.{failed_meets}
use Rattle.rel_eval.proofs.cursor.into_pulled.Goals as goal

pub returns-in-Failed-clause-meets : goal.returns-in-Failed-clause-meets
returns-in-Failed-clause-meets c = λ t u looks h.
    failed_meets c.args.budget t u looks c.in-Failed.place (subst (λ (x : Step). AsRoom (has_room c.args.budget) x) c.in-Failed.is c.requires.room) (subst (λ (x : Step). Goes [] t x looks u) c.in-Failed.is h)
