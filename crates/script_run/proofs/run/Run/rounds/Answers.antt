use Rattle.std.proofs.Common.{refl, ◌∙◌, arith}
use Rattle.script_run.specs.RunSteps.{Any}
use Rattle.script_run.specs.RunPlaces.{from, wanted_at}
use Rattle.script_run.proofs.Chains.{reach_none}
use Rattle.script_run.proofs.Rounds.{round_goes, round_stops, unmoved_first, unmoved_goes}
use Rattle.script_run.proofs.run.Run.rounds.Goals as goal

pub rounds-init : goal.rounds-init
rounds-init g c = record {
  started = omega arith;
  waits = c.requires;
  time = refl;
  reached = reach_none Any _ _ (from c.args.self.now) (from c.args.self.now) (λ more. refl);
  unmoved = unmoved_first (wanted_at c.args.self.now.place) _ (from c.args.self.now);
}

pub rounds-preserved : goal.rounds-preserved
rounds-preserved g c =
    let s = c.step.ensures.step in
    record {
      started = omega (arith, c.rounds.invariant.started, s.started);
      waits = s.waits;
      time = s.time ∙ c.rounds.invariant.time;
      reached = round_goes _ _ _ (from c.args.self.now) _ (from c.rounds.self) _ _ (from c.step.new.self) c.rounds.invariant.time c.in-None.is c.rounds.invariant.reached s.steps;
      unmoved = unmoved_goes (wanted_at c.args.self.now.place) (wanted_at c.rounds.self.place) (wanted_at c.step.new.self.place) _ (from c.args.self.now) _ (from c.rounds.self) _ _ (from c.step.new.self) c.in-None.is
          c.rounds.invariant.unmoved c.step.ensures.again;
    }

pub returns-in-Some : goal.returns-in-Some
returns-in-Some g c = round_stops c.args.self.now c.rounds.self c.step.new.self _ _ _ _ _ c.in-Some.is c.rounds.invariant.time c.rounds.invariant.started c.rounds.invariant.reached c.rounds.invariant.unmoved c.step.ensures
