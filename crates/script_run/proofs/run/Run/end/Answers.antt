use Rattle.std.proofs.Common.{refl, arith}
use Rattle.script_run.specs.declared.place.Place.TheVariants.{Done}
use Rattle.script_run.specs.declared.ran.Ran.TheVariants as ran
use Rattle.script_run.proofs.Moves.{moved_stands, stop_step, step_from}
use Rattle.script_run.proofs.run.Run.end.Goals as goal

pub returns : goal.returns
returns c = λ machine.
    let self = c.args.self.now in
    step_from Done self machine _ machine _ refl (stop_step Done self _ machine ran.Done machine _ (moved_stands Done self _ refl) (refl, refl) (refl, tt) tt (omega arith))
