use Rattle.std.proofs.Common.{true, refl, sym, ap, length, ◌∙◌, arith}
use Rattle.script_run.specs.declared.place.Place.TheVariants.{Placing, Supplied, Failed}
use Rattle.script_run.specs.Asking.{when_of, known_in}
use Rattle.script_run.specs.RunPlaces.{around}
use Rattle.script_run.specs.RunSteps.{Any}
use Rattle.script_run.proofs.Chains.{reach_none}
use Rattle.script_run.proofs.Moves.{compared_same, compared_other, moved_stands, move_step, step_from, memory_step}
use Rattle.script_run.proofs.run.Run.compare.Goals as goal

pub returns-in-Ok-None : goal.returns-in-Ok-None
returns-in-Ok-None c = λ machine.
    let self = c.args.self.now in
    step_from (Supplied c.args.fetch c.args.bytes) self machine _ machine _ refl
    (move_step (Placing c.args.fetch.line c.args.fetch.name c.args.bytes) self _ machine _ _ machine _ c.matches.ensures (omega arith) tt (omega arith)
    (reach_none Any (when_of self.kept.scene) machine _ _
    (λ more. compared_same c.args.fetch c.args.bytes c.as_slice.result.now (around self) (known_in self.kept.scene) more c.as_slice.ensures (rw c.in-Ok-None.field-0-is at c.in-Ok-None.ensures))))

pub returns-in-Ok-Some : goal.returns-in-Ok-Some
returns-in-Ok-Some c = λ machine.
    let self = c.args.self.now in
    step_from (Supplied c.args.fetch c.args.bytes) self machine _ machine _ refl
    (move_step (Failed c.args.fetch.line true c.in-Ok-Some.cause) self _ machine _ _ machine _ c.differs.ensures (omega arith) tt (omega arith)
    (reach_none Any (when_of self.kept.scene) machine _ _
    (λ more. compared_other c.args.fetch c.args.bytes c.as_slice.result.now c.in-Ok-Some.cause (around self) (known_in self.kept.scene) more c.as_slice.ensures (rw c.in-Ok-Some.field-0-is at c.in-Ok-Some.ensures))))

pub returns-in-Err : goal.returns-in-Err
returns-in-Err c = λ machine.
    let self = c.args.self.now in
    let place = Supplied c.args.fetch c.args.bytes in
    memory_step place self machine machine _ (sym (ap length c.as_slice.ensures) ∙ c.in-Err.ensures) (moved_stands place self _ c.stand.ensures) refl
