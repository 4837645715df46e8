use Rattle.std.proofs.Common.{refl, ap, ◌∙◌, arith}
use Rattle.script_run.specs.declared.cause.Cause.TheVariants.{ParameterTwice}
use Rattle.script_run.specs.declared.place.Place.TheVariants.{Doing, Failed}
use Rattle.script_run.specs.Walks.{failing}
use Rattle.script_run.specs.LineWalks.{line_walk, setting}
use Rattle.script_run.specs.Asking.{when_of, known_in}
use Rattle.script_run.specs.RunSteps.{Any, IsTextOf}
use Rattle.script_run.specs.RunPlaces.{around}
use Rattle.script_run.specs.Weights.{place_weight}
use Rattle.script_run.proofs.Chains.{reach_same, reach_any, starve_reached}
use Rattle.script_run.proofs.Moves.{move_step, none_step, ready_waits, step_from, starved_step, set_twice, set_once, set_walk, name_is_new}
use Rattle.script_run.proofs.run.Run.set.Goals as goal

pub returns-then-has : goal.returns-then-has
returns-then-has c = λ now before h.
    let self = c.args.self.now in
    let known = known_in self.kept.scene in
    let walk = line_walk c.args.line c.args.what (around self) known in
    let sets = setting c.args.line c.args.midway c.args.name c.args.value (around self) known in
    let reach = reach_any (IsTextOf c.args.line) (when_of self.kept.scene) before walk now sets (h.prepares c.args.line (around self)) in
    step_from (Doing c.args.line c.args.what) self before _ now _ refl
    (move_step (Failed c.args.line c.args.midway ParameterTwice) self _ before walk _ now _ c.fail.ensures (omega arith) tt (omega (arith, h.only.started))
    (reach_same Any (when_of self.kept.scene) before walk now sets (failing c.args.line c.args.midway ParameterTwice known) reach
    (λ more. set_twice c.args.line c.args.midway c.as_str.result.now c.args.name c.args.value (around self) known c.has.result more c.as_str.ensures c.has.ensures c.if-has.true)))

pub add-requires : goal.add-requires
add-requires c = name_is_new c.as_str.result.now c.args.name c.args.self.now.kept.scene.parameters c.has.result c.as_str.ensures c.has.ensures c.if-has.false

pub returns-in-Ok : goal.returns-in-Ok
returns-in-Ok c = λ now before h.
    let self = c.args.self.now in
    let known = known_in self.kept.scene in
    let walk = line_walk c.args.line c.args.what (around self) known in
    let sets = setting c.args.line c.args.midway c.args.name c.args.value (around self) known in
    let reach = reach_any (IsTextOf c.args.line) (when_of self.kept.scene) before walk now sets (h.prepares c.args.line (around self)) in
    step_from (Doing c.args.line c.args.what) self before _ now _ refl
    (none_step (when_of self.kept.scene) _ before walk _ now _ refl (ap when_of c.in-Ok.ensures.ok) (omega (arith, ap place_weight c.requires.ready)) (ready_waits _ _ c.requires.ready) (omega (arith, h.only.started))
    (reach_same Any (when_of self.kept.scene) before walk now sets _ reach
    (λ more. set_once c.args.line c.args.midway c.as_str.result.now c.args.name c.args.value (around self) known c.has.result more c.as_str.ensures c.has.ensures c.if-has.false
    ∙ set_walk self.place (around self) c.args.name c.args.value self.kept.scene c.add.new.self.scene more c.requires.ready c.in-Ok.ensures.ok)))

pub returns-in-Err : goal.returns-in-Err
returns-in-Err c = λ now before h.
    let self = c.args.self.now in
    starved_step (Doing c.args.line c.args.what) self c.args.line before now _ tt (record { stands = refl; current = refl; later = refl; scene = c.in-Err.ensures.err })
    (starve_reached (when_of self.kept.scene) c.args.line before _ now _ (h.prepares c.args.line (around self))) (omega (arith, h.only.started))
