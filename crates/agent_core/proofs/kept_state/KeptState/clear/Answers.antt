use Rattle.std.proofs.Common.{◌≡◌, ◌<◌, ◌≤◌, ◌||◌, false, List, Ok, length, refl, sym, ap, subst, ◌∙◌, arith}
use Rattle.std.proofs.Math.Bool.{or-true, or-false}
use Rattle.std.proofs.lemmas.List.{drop_all}
use Rattle.std.proofs.lemmas.Result.{err_from_is_err_and}
use Rattle.agent_attempt.specs.declared.read_block.ReadBlock.{ReadBlock}
use Rattle.agent_core.specs.Inside.{state_of}
use Rattle.agent_core.specs.Steps.{MarksEach}
use Rattle.agent_core.proofs.PuttingBack.{same_none, same_then}
use Rattle.agent_core.proofs.Searching.{marks_next, marks_of, marks_stop, shown_actions}
use Rattle.agent_core.proofs.kept_state.KeptState.clear.Goals as goal
use Rattle.agent_core.proofs.kept_state.KeptState.clear.Goals.{then-branch, else-branch}

pub loop-place-init : goal.loop-place-init
loop-place-init g c = record {
  marked = refl;
  good = c.requires;
  undo = same_none c.args.marked.now;
  goes = λ answer hs later h. subst (λ l. MarksEach c.args.time.now (state_of c.args.self.now) l (marks_of c.args.marked.now false) (g.M.Machine.told c.args.machine.now) answer hs later) c.actions-block-items.ensures h;
}

pub loop-place-preserved : goal.loop-place-preserved
loop-place-preserved g c =
    let below : c.loop-place.place < length c.actions-block-items.result.now = omega arith in
    let then : c.if-branch.any ≡ (c.loop-place.any || c.in_ok-clear_block.field-0) =
    elim c.if-branch.branch [
      | then-branch w ↦ w.any-is ∙ sym (ap (λ b. c.loop-place.any || b) w.if-branch.true ∙ or-true c.loop-place.any)
      | else-branch w ↦ w.any-is ∙ sym (ap (λ b. c.loop-place.any || b) w.if-branch.false ∙ or-false c.loop-place.any)
    ] in
    record {
      marked = c.clear_block.ensures.marks.marked ∙ c.loop-place.invariant.marked;
      good = c.clear_block.ensures.marks.good;
      undo = same_then c.args.marked.now c.loop-place.marked c.clear_block.new.marked c.loop-place.invariant.undo c.clear_block.ensures.undo;
      goes = marks_next _ _ c.actions-block-items.result.now c.loop-place.place c.block-item.result c.loop-place.any c.in_ok-clear_block.field-0 c.if-branch.any _ _ _ _ _ below c.block-item.is then c.loop-place.invariant.goes
          c.in_ok-clear_block.ensures.marks.marks;
    }

pub returns-in_err-clear_block-clause-marks : goal.returns-in_err-clear_block-clause-marks
returns-in_err-clear_block-clause-marks g c =
    let below : c.loop-place.place < length c.actions-block-items.result.now = omega arith in
    let p = err_from_is_err_and c.from_residual.result c.from_residual.ensures.1 in
    record {
      marks = rw (p.1, p.2)
          (marks_stop _ _ c.actions-block-items.result.now c.loop-place.place c.block-item.result c.loop-place.any _ _ _ _ _ _ below c.block-item.is c.loop-place.invariant.goes c.in_err-clear_block.ensures.marks.marks);
      marked = c.clear_block.ensures.marks.marked ∙ c.loop-place.invariant.marked;
      good = c.clear_block.ensures.marks.good;
    }

pub returns-in_err-clear_block-clause-undo : goal.returns-in_err-clear_block-clause-undo
returns-in_err-clear_block-clause-undo g c = same_then c.args.marked.now c.loop-place.marked c.clear_block.new.marked c.loop-place.invariant.undo c.clear_block.ensures.undo

pub returns-clause-undo : goal.returns-clause-undo
returns-clause-undo g c = c.loop-place.invariant.undo

pub returns-clause-marks : goal.returns-clause-marks
returns-clause-marks g c =
    let end : length c.actions-block-items.result.now ≤ c.loop-place.place = omega arith in
    let over : List ReadBlock → Type 0 = λ l. MarksEach c.args.time.now (state_of c.args.self.now) (shown_actions l) (marks_of c.loop-place.marked c.loop-place.any) (g.M.Machine.told c.loop-place.machine) (Ok c.loop-place.any) c.loop-place.marked (g.M.Machine.told c.loop-place.machine) in
    record {
      marks = c.loop-place.invariant.goes _ _ _ (subst over (sym (drop_all c.loop-place.place c.actions-block-items.result.now end)) (refl, refl, refl));
      marked = c.loop-place.invariant.marked;
      good = c.loop-place.invariant.good;
    }
