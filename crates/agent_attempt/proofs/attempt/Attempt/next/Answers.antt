use Rattle.std.proofs.Common.{ap, ◌∙◌}
use Rattle.agent_attempt.specs.Stages.{AttemptState}
use Rattle.agent_attempt.proofs.Stages.{next_is, coming_is}
use Rattle.agent_attempt.proofs.attempt.Attempt.next.Goals as goal

pub returns-clause-next : goal.returns-clause-next
returns-clause-next c = λ part left e. next_is c.args.self.now _ part left c.leave.new.parts.items c.self.view_is e c.requires c.leave.ensures

pub invariant_of-self : goal.invariant_of-self
invariant_of-self c = record {
  issued = c.self.invariant.issued;
  began = c.self.invariant.began;
  stands = coming_is _ c.self.inside.stage (ap (λ (s : AttemptState). s.stage) c.self.view_is ∙ c.requires);
}
