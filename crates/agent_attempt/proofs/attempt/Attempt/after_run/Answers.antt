use Rattle.std.proofs.Common.{arith, refl, sym, ◌∙◌}
use Rattle.agent_attempt.specs.Stages.{shown_attempt, shown_stage}
use Rattle.agent_attempt.proofs.Stepping.{leaves_more}
use Rattle.agent_attempt.proofs.AfterRun.{after_held, after_wants, after_memory, after_done, after_failed, behind_failed, behind_done}
use Rattle.agent_attempt.proofs.attempt.Attempt.after_run.Goals as goal

pub fail-requires-clause-stage : goal.fail-requires-clause-stage
fail-requires-clause-stage c = behind_failed c.args.self.now.stage c.args.exit c.requires.stage.0 c.args.ran c.in-Failed.line c.in-Failed.cause c.in-Failed.is c.requires.stage.1

pub returns-in-Held-clause-steps : goal.returns-in-Held-clause-steps
returns-in-Held-clause-steps c = λ at before run machine part left e stood wants known. after_held at before c.args.self.now part left c.args.exit run machine c.args.ran c.in-Held.line c.component.result c.in-Held.is e stood wants c.component.ensures

pub returns-in-Wants-clause-steps : goal.returns-in-Wants-clause-steps
returns-in-Wants-clause-steps c = λ at before run machine part left e stood wants known. after_wants at before c.args.self.now part left c.args.exit run machine c.args.ran c.in-Wants.field-0 c.in-Wants.digest c.in-Wants.is e stood wants

pub returns-in-Done-clause-steps : goal.returns-in-Done-clause-steps
returns-in-Done-clause-steps c = λ at before run machine part left e stood wants known. after_done at before c.args.self.now part left c.args.exit run machine c.args.ran c.in-Done.is e stood known

pub returns-in-Done-clause-leaves : goal.returns-in-Done-clause-leaves
returns-in-Done-clause-leaves c = record {
  note = tt;
  same = record { action = refl; row = refl; offset = refl };
  falls = behind_done c.args.self.now c.args.exit c.requires.stage.0 c.args.ran c.in-Done.is c.requires.stage.1;
}

pub returns-in-Failed-clause-steps : goal.returns-in-Failed-clause-steps
returns-in-Failed-clause-steps c = λ at before run machine part left e stood wants known.
    after_failed at before c.args.self.now part left c.args.exit _ machine c.args.ran c.in-Failed.line c.in-Failed.cause c.fail.result (shown_attempt c.fail.new.self) c.in-Failed.is known (c.fail.ensures.steps at machine part left e)

pub returns-in-Failed-clause-stage : goal.returns-in-Failed-clause-stage
returns-in-Failed-clause-stage c = c.fail.ensures.stage ∙ sym (behind_failed c.args.self.now.stage c.args.exit c.requires.stage.0 c.args.ran c.in-Failed.line c.in-Failed.cause c.in-Failed.is c.requires.stage.1)

pub returns-in-Failed-clause-leaves : goal.returns-in-Failed-clause-leaves
returns-in-Failed-clause-leaves c = leaves_more (shown_stage c.args.self.now.stage) (shown_attempt c.args.self.now) _ _ c.fail.result (shown_attempt c.fail.new.self) (omega arith) c.fail.ensures.leaves

pub returns-in-Memory-clause-steps : goal.returns-in-Memory-clause-steps
returns-in-Memory-clause-steps c = λ at before run machine part left e stood wants known. after_memory at before c.args.self.now part left c.args.exit run machine c.args.ran c.in-Memory.is e stood wants
