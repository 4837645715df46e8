use Rattle.std.proofs.Common.{◌+◌, Option, Ok, IfSome, refl, sym, subst, ◌∙◌}
use Rattle.desk_base.specs.Counts.{CountsIf}
use Rattle.group_sample.specs.declared.sample.Sampled.{Sampled}
use Rattle.group_sample.specs.Drawing.{none_drawn}
use Rattle.group_sample.specs.Due.{is_due}
use Rattle.group_sample.specs.Rows.{IsRowOf}
use Rattle.group_sample.proofs.MeasureLemmas.{has_failed, has_row, none_failed, not_due, one_failed}
use Rattle.group_sample.proofs.measuring.Measured.measure.Goals as goal

pub returns-then-not-is_due-clause-measures : goal.returns-then-not-is_due-clause-measures
returns-then-not-is_due-clause-measures g c = λ done so.
    not_due (IsRowOf (g.M.Machine.told c.args.machine.now).world c.args.scene.now.moment c.args.scene.now.offset) (is_due c.args.moments.now c.args.scene.now.moment) c.args.property.now
    c.args.self.now.rows.items c.args.self.now.failed (sym c.is_due.ensures ∙ c.if-not-is_due.true) done so

pub returns-in_ok-push-in-Some-clause-measures : goal.returns-in_ok-push-in-Some-clause-measures
returns-in_ok-push-in-Some-clause-measures g c = λ done so.
    let I : Option Sampled → Type 0 = λ o. IfSome o (IsRowOf (g.M.Machine.told c.args.machine.now).world c.args.scene.now.moment c.args.scene.now.offset c.args.property.now) in
    has_row (IsRowOf (g.M.Machine.told c.args.machine.now).world c.args.scene.now.moment c.args.scene.now.offset) (is_due c.args.moments.now c.args.scene.now.moment) c.args.property.now
    c.args.self.now.rows.items c.push.new.self.items c.in-Some.row c.args.self.now.failed (sym c.is_due.ensures ∙ c.if-not-is_due.false) (subst I c.in-Some.is c.in_ok-row.ensures.row)
    c.in_ok-push-in-Some.ensures.items done so

pub returns-in_ok-push-in-Some-clause-counts : goal.returns-in_ok-push-in-Some-clause-counts
returns-in_ok-push-in-Some-clause-counts g c = λ first so.
    let C : Option Sampled → Type 0 = λ o. CountsIf (none_drawn {V = Sampled} (Ok o)) (g.M.Machine.told c.args.machine.now).faults (g.M.Machine.told c.measure.new.machine).faults in
    none_failed c.args.self.now.failed first (g.M.Machine.told c.args.machine.now).faults (g.M.Machine.told c.measure.new.machine).faults so (subst C c.in-Some.is c.in_ok-row.ensures.cause)

pub returns-in-None-clause-measures : goal.returns-in-None-clause-measures
returns-in-None-clause-measures g c = λ done so.
    has_failed (IsRowOf (g.M.Machine.told c.args.machine.now).world c.args.scene.now.moment c.args.scene.now.offset) (is_due c.args.moments.now c.args.scene.now.moment) c.args.property.now
    c.args.self.now.rows.items c.args.self.now.failed (c.args.self.now.failed + 1) (sym c.is_due.ensures ∙ c.if-not-is_due.false) refl done so

pub returns-in-None-clause-counts : goal.returns-in-None-clause-counts
returns-in-None-clause-counts g c = λ first so.
    let C : Option Sampled → Type 0 = λ o. CountsIf (none_drawn {V = Sampled} (Ok o)) (g.M.Machine.told c.args.machine.now).faults (g.M.Machine.told c.measure.new.machine).faults in
    one_failed c.args.self.now.failed first (g.M.Machine.told c.args.machine.now).faults (g.M.Machine.told c.measure.new.machine).faults so (subst C c.in-None.is c.in_ok-row.ensures.cause)
