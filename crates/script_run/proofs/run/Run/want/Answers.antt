use Rattle.std.proofs.Common.{refl, arith}
use Rattle.script_run.specs.declared.place.Place.TheVariants.{Wanting}
use Rattle.script_run.specs.declared.ran.Ran.TheVariants as ran
use Rattle.script_run.proofs.Moves.{moved_stands, stop_step}
use Rattle.script_run.proofs.run.Run.want.Goals as goal

pub returns : goal.returns
returns c = λ machine.
    let self = c.args.self.now in
    let place = Wanting c.args.fetch in
    record {
      step = stop_step place self _ machine (ran.Wants c.args.fetch.line c.args.fetch.sha256) machine _ (moved_stands place self _ refl) (refl, refl) (refl, tt) tt (omega arith);
      again = record { wants = refl; machine = refl; same = refl };
    }
