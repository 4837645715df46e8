use Rattle.std.proofs.Common.{true, refl, ap, arith}
use Rattle.rel_eval.specs.declared.told.Truth.TheVariants as truth
use Rattle.script_text.specs.declared.tree.Arm.{out-Arm}
use Rattle.script_text.specs.Views.{shown_statements}
use Rattle.script_run.specs.declared.cause.Cause.TheVariants.{Relevance, MachineFault}
use Rattle.script_run.specs.declared.place.Place.TheVariants.{Testing, Asking, Failed}
use Rattle.script_run.specs.Asking.{when_of}
use Rattle.script_run.specs.RunPlaces.{around}
use Rattle.script_run.specs.ScriptWalks.{walk_all}
use Rattle.script_run.proofs.Texts.{tested_memory}
use Rattle.script_run.proofs.Moves.{moved_stands, none_step, move_step, step_from, starved_step, ready_waits}
use Rattle.script_run.proofs.Choices.{choosing, judged_as, arm_reaches}
use Rattle.script_run.proofs.run.Run.asked.Goals as goal

pub returns-in-True : goal.returns-in-True
returns-in-True c = λ before after j.
    let self = c.args.self.now in
    let other = choosing self.current self.later.items c.args.arms.items c.args.other in
    let e = c.go_in.ensures.enters in
    step_from (Asking c.args.arm c.args.arms c.args.other) self before _ after _ refl
    (none_step (when_of self.kept.scene) _ before _ _ after _ c.go_in.ensures.goes_on (ap (λ k. when_of k.scene) e.kept) (omega (arith, e.weight)) (ready_waits _ _ e.ready) (omega (arith, j.only.started))
    (arm_reaches self.kept.scene c.args.arm (around self) other before c.args.truth truth.True after _ c.in-True.is (λ is. absurd (cc)) j e.walk))

pub returns-in-False : goal.returns-in-False
returns-in-False c = λ before after j.
    let self = c.args.self.now in
    let other = choosing self.current self.later.items c.args.arms.items c.args.other in
    step_from (Asking c.args.arm c.args.arms c.args.other) self before _ after _ refl
    (move_step (Testing c.args.arms c.args.other) self _ before _ _ after _ c.pass_by.ensures (omega arith) tt (omega (arith, j.only.started))
    (arm_reaches self.kept.scene c.args.arm (around self) other before c.args.truth truth.False after _ c.in-False.is (λ is. absurd (cc)) j (λ more. refl)))

pub returns-in-Error : goal.returns-in-Error
returns-in-Error c = λ before after j.
    let self = c.args.self.now in
    let other = choosing self.current self.later.items c.args.arms.items c.args.other in
    step_from (Asking c.args.arm c.args.arms c.args.other) self before _ after _ refl
    (move_step (Failed (out-Arm c.args.arm).line true (Relevance c.in-Error.kind c.in-Error.place)) self _ before _ _ after _ c.give_up.ensures (omega arith) tt (omega (arith, j.only.started))
    (arm_reaches self.kept.scene c.args.arm (around self) other before c.args.truth (truth.Error c.in-Error.kind c.in-Error.place) after _ c.in-Error.is (λ is. absurd (cc)) j (λ more. refl)))

pub returns-in-Failed : goal.returns-in-Failed
returns-in-Failed c = λ before after j.
    let self = c.args.self.now in
    let other = choosing self.current self.later.items c.args.arms.items c.args.other in
    step_from (Asking c.args.arm c.args.arms c.args.other) self before _ after _ refl
    (move_step (Failed (out-Arm c.args.arm).line true MachineFault) self _ before _ _ after _ c.give_up-in-Failed.ensures (omega arith) tt (omega (arith, j.only.started))
    (arm_reaches self.kept.scene c.args.arm (around self) other before c.args.truth (truth.Failed c.in-Failed.field-0) after _ c.in-Failed.is (λ is. absurd (cc)) j (λ more. refl)))

pub returns-in-Memory : goal.returns-in-Memory
returns-in-Memory c = λ before after j.
    let self = c.args.self.now in
    let other = choosing self.current self.later.items c.args.arms.items c.args.other in
    let place = Asking c.args.arm c.args.arms c.args.other in
    starved_step place self (out-Arm c.args.arm).line before after _ tt (moved_stands place self _ c.stand.ensures)
    (tested_memory self.kept.scene (out-Arm c.args.arm).line (out-Arm c.args.arm).test (walk_all (shown_statements (out-Arm c.args.arm).body) (around self)) other before after
    (judged_as self.kept.scene (out-Arm c.args.arm).test before c.args.truth truth.Memory after c.in-Memory.is j)) (omega (arith, j.only.started))
