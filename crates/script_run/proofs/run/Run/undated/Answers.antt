use Rattle.std.proofs.Common.{refl, arith}
use Rattle.script_run.specs.declared.cause.Cause.TheVariants.{BadDate}
use Rattle.script_run.specs.declared.place.Place.TheVariants.{Doing, Failed}
use Rattle.script_run.specs.Walks.{failing}
use Rattle.script_run.specs.LineWalks.{line_walk}
use Rattle.script_run.specs.Asking.{when_of, known_in}
use Rattle.script_run.specs.RunSteps.{IsTextOf}
use Rattle.script_run.specs.RunPlaces.{around}
use Rattle.script_run.proofs.Chains.{reach_any}
use Rattle.script_run.proofs.Moves.{move_step, step_from}
use Rattle.script_run.proofs.run.Run.undated.Goals as goal

pub returns : goal.returns
returns c = λ now before h.
    let self = c.args.self.now in
    let known = known_in self.kept.scene in
    let walk = line_walk c.args.line c.args.what (around self) known in
    let failed = failing c.args.line c.args.midway BadDate known in
    step_from (Doing c.args.line c.args.what) self before _ now _ refl
    (move_step (Failed c.args.line c.args.midway BadDate) self _ before walk _ now _ c.fail.ensures (omega arith) tt (omega (arith, h.only.started))
    (reach_any (IsTextOf c.args.line) (when_of self.kept.scene) before walk now failed (h.prepares c.args.line (around self))))
