use Rattle.std.proofs.Common.{sym, ap, ◌∙◌}
use Rattle.agent_attempt.specs.Attempts.{Past}
use Rattle.agent_attempt.specs.Going.{ended}
use Rattle.agent_attempt.specs.Stages.{AttemptState}
use Rattle.agent_attempt.proofs.Failing.{ended_fixed, ended_failed}
use Rattle.agent_attempt.proofs.attempt.Attempt.ended.Goals as goal
use Rattle.agent_attempt.proofs.attempt.Attempt.ended.Goals.{in-None, in-Some}

pub returns-clause-ended : goal.returns-clause-ended
returns-clause-ended c =
    let past : Past = record { failure = c.self.inside.failure; exit = c.self.inside.exit } in
    let own = ap (λ (s : AttemptState). ended s.past) c.self.view_is in
    elim c.match-take.branch [
      | in-None w ↦ w.result-is ∙ ended_fixed past (sym c.take.ensures.value ∙ w.in-None.is) ∙ own
      | in-Some w ↦ w.result-is ∙ ended_failed past w.in-Some.failure (sym c.take.ensures.value ∙ w.in-Some.is) ∙ own
    ]
