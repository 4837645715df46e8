use Rattle.std.proofs.Common.{refl, ap, ◌∙◌, arith}
use Rattle.script_run.specs.declared.place.Place.TheVariants.{Testing}
use Rattle.script_run.specs.Asking.{when_of, known_in}
use Rattle.script_run.specs.RunSteps.{Any}
use Rattle.script_run.specs.Weights.{arm_list_weight, todos_weight}
use Rattle.script_run.proofs.Chains.{reach_none}
use Rattle.script_run.proofs.Moves.{memory_step, none_left, ready_waits}
use Rattle.script_run.proofs.Choices.{choosing_first, choosing_none}
use Rattle.script_run.proofs.run.Run.choose.Goals as goal

pub returns-then-is_err : goal.returns-then-is_err
returns-then-is_err c = λ machine.
    memory_step (Testing c.args.arms c.args.other) c.args.self.now machine machine _ tt (record { stands = refl; current = refl; later = c.reserve.ensures.items; scene = refl }) refl

pub returns-in-Some : goal.returns-in-Some
returns-in-Some c = λ machine.
    let self = c.args.self.now in
    record {
      step = record {
        steps = reach_none Any (when_of self.kept.scene) machine _ _
            (λ more. choosing_first self.current _ _ c.in-Some.arm _ _ c.args.other (known_in self.kept.scene) more c.reserve.ensures.items c.in-Some.ensures.items);
        falls = omega (arith, ap todos_weight c.reserve.ensures.items, ap arm_list_weight c.in-Some.ensures.items);
        time = refl;
        waits = tt;
        started = omega arith;
        rests = tt;
      };
      again = tt;
    }

pub returns-in-None : goal.returns-in-None
returns-in-None c = λ machine.
    let self = c.args.self.now in
    let e = c.enter.ensures in
    record {
      step = record {
        steps = reach_none Any (when_of self.kept.scene) machine _ _
            (λ more. choosing_none self.current _ _ _ c.args.other (known_in self.kept.scene) more c.reserve.ensures.items (none_left _ _ c.in-None.ensures.items c.in-None.ensures.rest) ∙ e.walk more);
        falls = omega (arith, ap todos_weight c.reserve.ensures.items, e.weight);
        time = ap (λ k. when_of k.scene) e.kept;
        waits = ready_waits _ machine.started e.ready;
        started = omega arith;
        rests = tt;
      };
      again = tt;
    }
