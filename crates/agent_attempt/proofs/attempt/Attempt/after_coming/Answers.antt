use Rattle.std.proofs.Common.{None, refl, sym, ap, subst, arith}
use Rattle.agent_attempt.specs.declared.attempt.Stage.TheVariants as stage
use Rattle.agent_attempt.specs.Attempts.{coming}
use Rattle.agent_attempt.specs.Stages.{AttemptState, FirstHasScript, shown_attempt, shown_stage}
use Rattle.agent_attempt.specs.AttemptSteps.{with_stage}
use Rattle.agent_attempt.proofs.Stepping.{first_of, leaves_later, leaves_more, leaves_next, leaves_there, waits_coming}
use Rattle.agent_attempt.proofs.Stages.{come_starts, come_passes, come_stays}
use Rattle.agent_attempt.proofs.attempt.Attempt.after_coming.Goals as goal

pub invariant_of-self : goal.invariant_of-self
invariant_of-self c = record {
  issued = c.self.invariant.issued;
  began = c.self.invariant.began;
  stands = subst FirstHasScript (sym (ap (λ (x : AttemptState). x.left) c.self.view_is)) (c.requires.script c.in-Yes.is);
}

pub returns-in-Yes-clause-steps : goal.returns-in-Yes-clause-steps
returns-in-Yes-clause-steps c = λ at machine part left e. come_starts at part left c.args.found machine c.args.self.now _ c.in-Yes.is c.self.view_is e

pub returns-in-Yes-clause-leaves : goal.returns-in-Yes-clause-leaves
returns-in-Yes-clause-leaves c =
    let s = c.args.self.now in
    leaves_more (shown_stage s.stage) (with_stage coming (shown_attempt s)) _ _ None _ (omega arith) (leaves_later coming s _ stage.Starting c.self.view_is (omega arith))

pub returns-in-No-clause-steps : goal.returns-in-No-clause-steps
returns-in-No-clause-steps c = λ at machine part left e. come_passes at part left c.args.found machine c.args.self.now c.next.new.self c.next.result c.in-No.is c.next.ensures.none (c.next.ensures.next part left e)

pub returns-in-No-clause-waits : goal.returns-in-No-clause-waits
returns-in-No-clause-waits c started =
    let p = first_of c.args.self.now.left c.requires.some in
    waits_coming started c.next.new.self.stage (ap (λ (x : AttemptState). x.stage) (c.next.ensures.next p.0 p.1 p.2))

pub returns-in-No-clause-leaves : goal.returns-in-No-clause-leaves
returns-in-No-clause-leaves c =
    let s = c.args.self.now in
    let p = first_of s.left c.requires.some in
    leaves_next (shown_stage s.stage) s c.next.new.self p.0 p.1 s.past _ c.next.result c.next.ensures.none p.2 (c.next.ensures.next p.0 p.1 p.2) (omega arith)

pub returns-in-Failed-clause-waits : goal.returns-in-Failed-clause-waits
returns-in-Failed-clause-waits c started = waits_coming started c.fail.new.self.stage c.fail.ensures.stage

pub returns-in-Failed-clause-leaves : goal.returns-in-Failed-clause-leaves
returns-in-Failed-clause-leaves c =
    let s = c.args.self.now in
    leaves_more (shown_stage s.stage) (shown_attempt s) _ _ c.fail.result (shown_attempt c.fail.new.self) (omega arith) c.fail.ensures.leaves

pub returns-in-Memory-clause-steps : goal.returns-in-Memory-clause-steps
returns-in-Memory-clause-steps c = λ at machine part left e. come_stays at part left c.args.found machine c.args.self.now c.in-Memory.is c.requires.stage e

pub returns-in-Memory-clause-waits : goal.returns-in-Memory-clause-waits
returns-in-Memory-clause-waits c started = waits_coming started c.args.self.now.stage c.requires.stage

pub returns-in-Memory-clause-leaves : goal.returns-in-Memory-clause-leaves
returns-in-Memory-clause-leaves c =
    let s = c.args.self.now in
    leaves_there (shown_stage s.stage) s s s.stage _ refl
