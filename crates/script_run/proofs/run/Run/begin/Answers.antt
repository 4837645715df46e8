use Rattle.std.proofs.Common.{refl, arith}
use Rattle.script_run.specs.Asking.{when_of, known_in}
use Rattle.script_run.specs.RunSteps.{Any}
use Rattle.script_run.specs.RunPlaces.{around, todos_walk}
use Rattle.script_run.proofs.Chains.{reach_none}
use Rattle.script_run.proofs.Moves.{step_along}
use Rattle.script_run.proofs.run.Run.begin.Goals as goal

pub returns-in-Some : goal.returns-in-Some
returns-in-Some c = λ machine.
    let b = c.in-Some.ensures in
    let self = c.args.self.now in
    record {
      step = record {
        steps = reach_none Any (when_of self.kept.scene) machine _ _ (λ more. b.0 (todos_walk self.later.items) (known_in self.kept.scene) more);
        falls = omega (arith, b.1);
        time = refl;
        waits = b.2 machine.started;
        started = omega arith;
        rests = tt;
      };
      again = tt;
    }

pub returns-in-None : goal.returns-in-None
returns-in-None c = λ machine.
    let b = c.in-None.ensures in
    let self = c.args.self.now in
    record {
      step = step_along (when_of self.kept.scene) machine (around self (known_in self.kept.scene)) (todos_walk self.later.items (known_in self.kept.scene)) _ _ _ machine _
          (λ more. b.0 (todos_walk self.later.items) (known_in self.kept.scene) more) (omega (arith, b.1)) (c.go_out.ensures machine);
      again = tt;
    }
