use Rattle.std.proofs.Common.{refl, sym, ap, arith}
use Rattle.script_run.specs.declared.place.Place.TheVariants.{Failed}
use Rattle.script_run.specs.declared.ran.Ran.TheVariants as ran
use Rattle.script_run.specs.Walks.{Fails}
use Rattle.script_run.proofs.Moves.{moved_stands, stop_step, step_from, memory_step}
use Rattle.script_run.proofs.run.Run.tell.Goals as goal

pub returns-in-Ok : goal.returns-in-Ok
returns-in-Ok c = λ machine.
    let self = c.args.self.now in
    let place = Failed c.args.line c.args.midway c.args.cause in
    step_from place self machine _ machine _ refl
    (stop_step place self _ machine (ran.Failed c.args.line c.in-Ok.cause) machine _ (moved_stands place self _ refl) (c.args.midway, ap (Fails c.args.line c.args.midway) (sym c.in-Ok.ensures.same), refl) (refl, tt) tt (omega arith))

pub returns-in-Err : goal.returns-in-Err
returns-in-Err c = λ machine.
    let self = c.args.self.now in
    let place = Failed c.args.line c.args.midway c.args.cause in
    memory_step place self machine machine _ c.in-Err.ensures.texts (moved_stands place self _ refl) refl
