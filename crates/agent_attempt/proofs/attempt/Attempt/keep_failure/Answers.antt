use Rattle.std.proofs.Common.{sym, ap, ◌∙◌}
use Rattle.std.specs.Option.{is_some}
use Rattle.agent_attempt.specs.Stages.{AttemptState}
use Rattle.agent_attempt.proofs.Failing.{failure_stays, failure_comes}
use Rattle.agent_attempt.proofs.attempt.Attempt.keep_failure.Goals as goal

pub returns-then-is_some : goal.returns-then-is_some
returns-then-is_some c = λ part left e.
    failure_stays c.args.self.now part _ _ _ (sym (ap (λ (s : AttemptState). is_some s.past.failure) c.self.view_is) ∙ sym c.is_some.ensures ∙ c.if-is_some.true)

pub returns : goal.returns
returns c = λ part left e.
    failure_comes c.args.self.now _ part left c.component.result _ _ _ c.self.view_is e c.component.ensures (sym c.is_some.ensures ∙ c.if-is_some.false)
