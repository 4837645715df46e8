use Rattle.std.proofs.Common.{◌≡◌, arith, false, refl, sym, ◌∙◌}
use Rattle.std.proofs.lemmas.Bool.{eqb-true}
use Rattle.std.proofs.lemmas.List.{nil_from_length}
use Rattle.agent_core.specs.declared.kept_state.KeptState.{KeptState}
use Rattle.agent_core.proofs.MarkedTurns.{marks_kept, marks_stopped, no_marks_kept}
use Rattle.agent_core.proofs.kept_state.KeptState.mark.Goals as goal

pub returns-then-is_empty : goal.returns-then-is_empty
returns-then-is_empty g c =
    let len : c.in-Ok.before.len ≡ 0 = eqb-true c.in-Ok.before.len 0 (sym c.is_empty.ensures ∙ c.if-is_empty.true) in
    no_marks_kept c.args.time.now c.args.self.now (record { any = false; before = c.in-Ok.before }) (g.M.Machine.told c.args.machine.now) c.requires.sound c.requires.free c.in-Ok.ensures refl
    (nil_from_length c.in-Ok.before.items (omega (arith, c.in-Ok.before.ok.0, len)))

pub returns-in-Ok-cleared : goal.returns-in-Ok-cleared
returns-in-Ok-cleared g c =
    let a : KeptState = c.args.self.now in
    marks_kept c.args.time.now a c.replace-histories.result c.replace-histories.new.dest c.clear-cleared.new.marked (g.M.Machine.told c.args.machine.now) (g.M.Machine.told c.clear-cleared.new.machine) c.replace-histories.ensures.value c.requires.sound
    (record { any = c.in-Ok-cleared.any; before = c.in-Ok.before }) c.requires.free c.in-Ok.ensures c.clear-cleared.ensures.undo c.in-Ok-cleared.ensures.marks

pub returns-in-Err : goal.returns-in-Err
returns-in-Err g c =
    let a : KeptState = c.args.self.now in
    marks_stopped c.args.time.now a c.replace-histories.result c.replace-histories.new.dest c.clear-cleared.new.marked (g.M.Machine.told c.args.machine.now) (g.M.Machine.told c.clear-cleared.new.machine) c.replace-histories.ensures.value c.requires.sound
    c.in-Ok.before.items c.unmark.new.self c.in-Err.stop c.in-Ok.ensures c.clear-cleared.ensures.undo c.in-Err.ensures.marks c.unmark.ensures
