use Rattle.std.proofs.Common.{◌≡◌, ◌≤◌}
use Rattle.script_run.specs.Asking.{when_of}
use Rattle.script_run.specs.RunSteps.{Any}
use Rattle.script_run.specs.RunPlaces.{WaitsBelow, from, wanted_at}
use Rattle.script_run.specs.Weights.{run_weight}
use Rattle.script_run.specs.Fills.{Reaches}
use Rattle.script_run.specs.OneStep.{Unmoved}
use Rattle.script_run.proofs.run.Run.rounds.Given as goal

abbrev pub invariant-rounds : goal.invariant-rounds
invariant-rounds g l = record {
  started : (g.M.Machine.told l.fn.machine).started ≤ (g.M.Machine.told l.machine).started;
  waits : WaitsBelow (g.M.Machine.told l.machine).started l.self.place;
  time : when_of l.self.kept.scene ≡ when_of l.fn.self.kept.scene;
  reached : Reaches Any (when_of l.fn.self.kept.scene)
      (g.M.Machine.told l.fn.machine)
      (from l.fn.self)
      (g.M.Machine.told l.machine)
      (from l.self);
  unmoved : Unmoved (wanted_at l.fn.self.place)
      (g.M.Machine.told l.fn.machine)
      (from l.fn.self) (wanted_at l.self.place)
      (g.M.Machine.told l.machine)
      (from l.self);
}

abbrev pub decreases-rounds : goal.decreases-rounds
decreases-rounds g l = run_weight l.self
