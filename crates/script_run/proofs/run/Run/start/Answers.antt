use Rattle.std.proofs.Common.{rules, SFits, w64, ℤ, refl, subst, sym, ap, arith}
use Rattle.bf_machine.specs.Acts.{ActsOn}
use Rattle.bf_machine.specs.Views.{MachineView}
use Rattle.script_run.specs.declared.place.Place.TheVariants.{Doing}
use Rattle.script_run.specs.LineWalks.{line_walk}
use Rattle.script_run.specs.Asking.{when_of, known_in}
use Rattle.script_run.specs.RunSteps.{IsTextOf, Starves}
use Rattle.script_run.specs.RunPlaces.{around}
use Rattle.script_run.proofs.Chains.{reach_any, starve_reached}
use Rattle.script_run.proofs.Moves.{act_without_memory, acts_at, act_step, moved_stands, step_from, step_behind, starved_step}
use Rattle.script_run.proofs.run.Run.start.Goals as goal

pub returns-in-Memory : goal.returns-in-Memory
returns-in-Memory g c = λ before h.
    let self = c.args.self.now in
    let place = Doing c.args.line c.args.what in
    let walk = line_walk c.args.line c.args.what (around self) (known_in self.kept.scene) in
    let S : MachineView → Type 0 = λ v. Starves (when_of self.kept.scene) c.args.line before walk v in
    let same = act_without_memory _ c.args.command _ _ c.in-Memory.ensures in
    starved_step place self c.args.line before _ _ tt (moved_stands place self _ refl)
    (subst S (sym same) (starve_reached (when_of self.kept.scene) c.args.line before walk _ _ (h.prepares c.args.line (around self)).1))
    (omega (arith, h.only.started, ap (λ (v : MachineView). v.started) same))

pub returns-in_default : goal.returns-in_default
returns-in_default g c = λ before h.
    let self = c.args.self.now in
    let fits : SFits w64 c.moment.result = search rules in
    let at = when_of self.kept.scene in
    let walk = line_walk c.args.line c.args.what (around self) (known_in self.kept.scene) in
    let k = h.prepares c.args.line (around self) in
    step_from (Doing c.args.line c.args.what) self before _ _ _ refl
    (step_behind at before walk _ _ _ _ _ _ _ (reach_any (IsTextOf c.args.line) at before walk _ _ k.1) (omega (arith, h.only.started)) (omega arith)
    (act_step c.args.line 3 _ self c.act.result _ _ k.0 c.args.command _ _ c.started.ensures c.in_default.not-Memory (subst (λ (m : ℤ). ActsOn m c.args.command (g.M.Machine.told c.args.machine.now) c.act.result (g.M.Machine.told c.act.new.self)) c.moment.ensures.same
    (acts_at c.moment.result c.args.command _ c.act.result _ fits c.act.ensures))))
