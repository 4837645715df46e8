use Rattle.std.proofs.Common.{refl, ap, ◌∙◌, arith}
use Rattle.script_run.specs.declared.place.Place.TheVariants.{Asking}
use Rattle.script_run.specs.declared.run.Run.{Run}
use Rattle.script_run.specs.Asking.{when_of, known_in}
use Rattle.script_run.specs.Weights.{todos_weight}
use Rattle.script_run.proofs.Moves.{memory_step, step_from, step_along}
use Rattle.script_run.proofs.Choices.{asked, asked_same}
use Rattle.script_run.proofs.run.Run.ask.Goals as goal

pub returns-then-is_err : goal.returns-then-is_err
returns-then-is_err g c =
    let e = c.stand.ensures in
    memory_step (Asking c.args.arm c.args.arms c.args.other) c.args.self.now _ _ _ tt
    (record {
      stands = ap (λ (r : Run). r.place) e;
      current = ap (λ (r : Run). r.current) e;
      later = ap (λ (r : Run). r.later.items) e ∙ c.reserve.ensures.items;
      scene = ap (λ (r : Run). r.kept.scene) e;
    }) refl

pub returns : goal.returns
returns g c =
    let self = c.args.self.now in
    let left = c.reserve.new.self.items in
    let items = c.args.arms.items in
    let known = known_in self.kept.scene in
    step_from (Asking c.args.arm c.args.arms c.args.other) self _ _ _ _ refl
    (step_along (when_of self.kept.scene) _ (asked self.current self.later.items c.args.arm items c.args.other known) (asked self.current left c.args.arm items c.args.other known) _ _ _ _ _
    (λ more. asked_same self.current self.later.items left c.args.arm items c.args.other known more c.reserve.ensures.items)
    (omega (arith, ap todos_weight c.reserve.ensures.items))
    (c.asked.ensures _ _ c.judge-truth.ensures).step)
