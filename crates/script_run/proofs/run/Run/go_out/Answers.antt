use Rattle.std.proofs.Common.{refl, sym, ap, ◌∙◌, arith}
use Rattle.script_run.specs.Asking.{when_of, known_in}
use Rattle.script_run.specs.RunSteps.{Any}
use Rattle.script_run.specs.RunPlaces.{todo_walk, todos_walk, place_walk}
use Rattle.script_run.specs.Weights.{place_weight, todos_weight}
use Rattle.script_run.proofs.Chains.{reach_none}
use Rattle.script_run.proofs.Moves.{ready_waits, none_left}
use Rattle.script_run.proofs.run.Run.go_out.Goals as goal

pub returns-in-Some : goal.returns-in-Some
returns-in-Some c = λ machine.
    let known = known_in c.args.self.now.kept.scene in
    record {
      steps = reach_none Any (when_of c.args.self.now.kept.scene) machine _ _ (λ more.
          ap (λ l. todos_walk l known more) c.in-Some.ensures.items
          ∙ sym (ap (λ p. place_walk p (todo_walk c.in-Some.todo (todos_walk c.pop_front.new.self.items)) known more) c.requires.ready));
      falls = omega (arith, ap todos_weight c.in-Some.ensures.items, ap place_weight c.requires.ready);
      time = refl;
      waits = ready_waits _ machine.started c.requires.ready;
      started = omega arith;
      rests = tt;
    }

pub returns-in-None : goal.returns-in-None
returns-in-None c = λ machine.
    record {
      steps = reach_none Any (when_of c.args.self.now.kept.scene) machine _ _
          (λ more. ap (λ l. todos_walk l (known_in c.args.self.now.kept.scene) more) (none_left _ _ c.in-None.ensures.items c.in-None.ensures.rest));
      falls = omega (arith, ap todos_weight c.in-None.ensures.items);
      time = refl;
      waits = tt;
      started = omega arith;
      rests = tt;
    }
