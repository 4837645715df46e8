use Rattle.std.proofs.Common.{◌≡◌, length, sym, ap, ◌∙◌, subst, arith}
use Rattle.agent_attempt.specs.declared.attempt.Stage.{Stage}
use Rattle.agent_attempt.specs.declared.attempt.Stage.TheVariants as stage
use Rattle.agent_attempt.specs.Attempts.{StageWaitsBelow}
use Rattle.agent_attempt.specs.Stages.{AttemptState, shown_stage}
use Rattle.agent_attempt.proofs.Stepping.{same_as}
use Rattle.agent_attempt.proofs.Stages.{steps_end, none_left, staged_step, staged_run, staged_script, staged_waits}
use Rattle.agent_attempt.proofs.attempt.Attempt.step.Goals as goal

pub returns-then-is_empty : goal.returns-then-is_empty
returns-then-is_empty g c =
    let s = c.args.self.now in
    let count : c.self.inside.left.len ≡ length c.self.inside.left.items = omega (arith, c.self.inside.left.ok.0) in
    record {
      steps = steps_end c.args.time.now s _ c.ended.result _
          (sym (ap (λ (x : AttemptState). x.left) c.self.view_is) ∙ none_left c.self.inside.left.items c.self.inside.left.len c.is_empty.result count c.is_empty.ensures c.if-is_empty.true) c.ended.ensures.ended;
      waits = subst (λ (x : Stage). StageWaitsBelow (g.M.Machine.told c.args.machine.now).started (shown_stage x)) (sym (ap (λ (x : AttemptState). x.stage) c.ended.ensures.left)) c.requires.waits;
      leaves = record { note = c.ended.ensures.note; same = same_as (shown_stage s.stage) s c.ended.new.self s.left s.stage _ c.ended.ensures.left; falls = tt };
    }

pub returns-in-Coming : goal.returns-in-Coming
returns-in-Coming g c = staged_step _ c.args.self.now _ stage.Coming c.replace.new.dest _ _ c.come.result _ c.self.view_is (sym c.replace.ensures.value ∙ c.in-Coming.is) c.come.ensures

pub returns-in-Starting : goal.returns-in-Starting
returns-in-Starting g c = staged_step _ c.args.self.now _ stage.Starting c.replace.new.dest _ _ c.start.result _ c.self.view_is (sym c.replace.ensures.value ∙ c.in-Starting.is) (c.start.ensures _ _)

pub start-requires-clause-script : goal.start-requires-clause-script
start-requires-clause-script g c = staged_script c.self.inside.left.items c.self.inside.stage (sym c.replace.ensures.value ∙ c.in-Starting.is) c.self.invariant.stands

pub run-requires-clause-run : goal.run-requires-clause-run
run-requires-clause-run g c = staged_run c.self.inside.left.items c.self.inside.stage c.in-Running.run' (sym c.replace.ensures.value ∙ c.in-Running.is) c.self.invariant.stands

pub run-requires-clause-waits : goal.run-requires-clause-waits
run-requires-clause-waits g c = staged_waits _ c.args.self.now _ c.in-Running.run' c.self.view_is (sym c.replace.ensures.value ∙ c.in-Running.is) c.requires.waits

pub returns-in-Running : goal.returns-in-Running
returns-in-Running g c = staged_step _ c.args.self.now _ (stage.Running c.in-Running.run') c.replace.new.dest _ _ c.run.result _ c.self.view_is (sym c.replace.ensures.value ∙ c.in-Running.is) c.run.ensures

pub returns-in-Judging : goal.returns-in-Judging
returns-in-Judging g c = staged_step _ c.args.self.now _ (stage.Judging c.in-Judging.exit) c.replace.new.dest _ _ c.judge.result _ c.self.view_is (sym c.replace.ensures.value ∙ c.in-Judging.is) c.judge.ensures
