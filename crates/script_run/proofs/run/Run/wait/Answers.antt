use Rattle.std.proofs.Common.{true, rules, SFits, w64, refl, ap, arith}
use Rattle.std.proofs.lemmas.Int.{to_z-of_z}
use Rattle.script_run.specs.declared.cause.Cause.TheVariants.{MachineFault}
use Rattle.script_run.specs.declared.place.Place.TheVariants.{Waiting, Failed}
use Rattle.script_run.specs.declared.ran.Ran.TheVariants as ran
use Rattle.script_run.specs.Asking.{when_of, known_in}
use Rattle.script_run.specs.RunPlaces.{around}
use Rattle.script_run.specs.Weights.{place_weight}
use Rattle.script_run.proofs.Moves.{poll_exits, poll_fails, exit_walk, moved_stands, stop_step, none_step, ready_waits, move_step, step_from}
use Rattle.script_run.proofs.run.Run.wait.Goals as goal

pub returns-in-Running : goal.returns-in-Running
returns-in-Running g c =
    let self = c.args.self.now in
    let place = Waiting c.args.line c.args.process in
    let e = c.in-Running.ensures in
    step_from place self _ _ _ _ refl
    (stop_step place self _ _ (ran.Held c.args.line) _ _ (moved_stands place self _ refl) (refl, e) (refl, tt) (omega (arith, c.requires.started, e.started)) (omega (arith, e.started)))

pub returns-in-Exited : goal.returns-in-Exited
returns-in-Exited g c =
    let self = c.args.self.now in
    let e = c.in-Exited.ensures in
    let fits : SFits w64 c.in-Exited.code = search rules in
    let known = simp to_z-of_z at c.set_exit.ensures in
    step_from (Waiting c.args.line c.args.process) self _ _ _ _ refl
    (none_step (when_of self.kept.scene) _ _ _ _ _ _ refl (ap when_of c.set_exit.ensures) (omega (arith, ap place_weight c.requires.ready)) (ready_waits _ _ c.requires.ready) (omega (arith, e.started))
    (poll_exits (when_of self.kept.scene) c.args.line c.args.process.0 (around self) (known_in self.kept.scene) _ c.in-Exited.code _ _ e
    (λ more. exit_walk self.place (around self) c.in-Exited.code self.kept.scene c.set_exit.new.self.scene more c.requires.ready known)))

pub returns-in-Failed : goal.returns-in-Failed
returns-in-Failed g c =
    let self = c.args.self.now in
    let e = c.in-Failed.ensures in
    step_from (Waiting c.args.line c.args.process) self _ _ _ _ refl
    (move_step (Failed c.args.line true MachineFault) self _ _ _ _ _ _ c.fail.ensures (omega arith) tt (omega (arith, e.started))
    (poll_fails (when_of self.kept.scene) c.args.line c.args.process.0 (around self) (known_in self.kept.scene) _ _ e))
