use Rattle.std.proofs.Common.{refl, arith}
use Rattle.script_run.specs.declared.lines.Prepared.TheVariants.{Passes, Held, Sets, Undated, Does, Awaits}
use Rattle.script_run.specs.declared.place.Place.TheVariants.{Ready, Doing}
use Rattle.script_run.specs.declared.ran.Ran.TheVariants as ran
use Rattle.script_run.specs.RunPlaces.{around}
use Rattle.script_run.proofs.Moves.{moved_stands, still_stands, stop_step, goes_step, step_from}
use Rattle.script_run.proofs.Preparing.{prepared_as}
use Rattle.script_run.proofs.run.Run.carry_out.Goals as goal

pub returns-in-Passes : goal.returns-in-Passes
returns-in-Passes g c = λ before h.
    let self = c.args.self.now in
    let k = prepared_as self.kept.scene c.args.what before c.args.prepared Passes _ c.in-Passes.is h in
    step_from (Doing c.args.line c.args.what) self before _ _ _ refl
    (goes_step Ready self _ before _ _ _ _ refl (still_stands Ready self c.requires.ready) (omega arith) tt (omega (arith, k.only.started)) (k.prepares c.args.line (around self)))

pub returns-in-Held : goal.returns-in-Held
returns-in-Held g c = λ before h.
    let self = c.args.self.now in
    let place = Doing c.args.line c.args.what in
    let k = prepared_as self.kept.scene c.args.what before c.args.prepared Held _ c.in-Held.is h in
    step_from place self before _ _ _ refl
    (stop_step place self _ before (ran.Held c.args.line) _ _ (moved_stands place self _ refl) (k.prepares c.args.line (around self)) (refl, tt) tt (omega (arith, k.only.started)))

pub returns-in-Sets : goal.returns-in-Sets
returns-in-Sets g c = λ before h. c.set.ensures _ before (prepared_as c.args.self.now.kept.scene c.args.what before c.args.prepared (Sets c.in-Sets.midway c.in-Sets.name c.in-Sets.value) _ c.in-Sets.is h)

pub returns-in-Undated : goal.returns-in-Undated
returns-in-Undated g c = λ before h. c.undated.ensures _ before (prepared_as c.args.self.now.kept.scene c.args.what before c.args.prepared (Undated c.in-Undated.midway) _ c.in-Undated.is h)

pub returns-in-Does : goal.returns-in-Does
returns-in-Does g c = λ before h. c.act.ensures before (prepared_as c.args.self.now.kept.scene c.args.what before c.args.prepared (Does c.in-Does.command) _ c.in-Does.is h)

pub returns-in-Awaits : goal.returns-in-Awaits
returns-in-Awaits g c = λ before h. c.start.ensures before (prepared_as c.args.self.now.kept.scene c.args.what before c.args.prepared (Awaits c.in-Awaits.command) _ c.in-Awaits.is h)
