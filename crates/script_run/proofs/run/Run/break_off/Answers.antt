use Rattle.std.proofs.Common.{true, refl, arith}
use Rattle.script_run.specs.declared.broken.Broken.TheVariants as broken
use Rattle.script_run.specs.declared.place.Place.TheVariants.{Doing, Failed}
use Rattle.script_run.specs.RunPlaces.{around}
use Rattle.script_run.proofs.Moves.{moved_stands, move_step, step_from, starved_step}
use Rattle.script_run.proofs.Preparing.{broken_as}
use Rattle.script_run.proofs.run.Run.break_off.Goals as goal

pub returns-in-Failed : goal.returns-in-Failed
returns-in-Failed c = λ now before h.
    let self = c.args.self.now in
    let k = broken_as self.kept.scene c.args.what before c.args.broken (broken.Failed c.in-Failed.cause) now c.in-Failed.is h in
    step_from (Doing c.args.line c.args.what) self before _ now _ refl
    (move_step (Failed c.args.line true c.in-Failed.cause) self _ before _ _ now _ c.fail.ensures (omega arith) tt (omega (arith, k.only.started)) (k.prepares c.args.line (around self)))

pub returns-in-Memory : goal.returns-in-Memory
returns-in-Memory c = λ now before h.
    let self = c.args.self.now in
    let place = Doing c.args.line c.args.what in
    let k = broken_as self.kept.scene c.args.what before c.args.broken broken.Memory now c.in-Memory.is h in
    starved_step place self c.args.line before now _ tt (moved_stands place self _ refl) (k.prepares c.args.line (around self)) (omega (arith, k.only.started))
