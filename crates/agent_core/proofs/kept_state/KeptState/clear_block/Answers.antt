use Rattle.std.proofs.Common.{◌≡◌, true, None, refl, rules, SFits, w64, ap, subst, sym, ◌∙◌}
use Rattle.std.proofs.lemmas.Int.{to_z-of_z}
use Rattle.std.proofs.lemmas.Result.{err_from_is_err_and}
use Rattle.act_rules.specs.Rows.{HasEnded, last_row}
use Rattle.fix_site.specs.declared.action.Action.{Action}
use Rattle.agent_text.specs.Histories.{AreHistories, rows_at, with_cleared}
use Rattle.agent_attempt.specs.ReadBlocks.{shown_block}
use Rattle.agent_attempt.specs.ActionContents.{as_action}
use Rattle.agent_core.specs.Marked.{UndoneSame}
use Rattle.agent_core.specs.Steps.{AreMarked}
use Rattle.agent_core.specs.Turns.{may_clear}
use Rattle.std.specs.Prelude.{IsSomeAnd}
use Rattle.agent_core.proofs.Marks.{cleared_marked, may_ended, may_unmarked, tested_true}
use Rattle.agent_core.proofs.PuttingBack.{same_marked, same_none}
use Rattle.agent_core.proofs.Searching.{marks_block, marks_error, marks_none, marks_one}
use Rattle.agent_core.proofs.kept_state.KeptState.clear_block.Goals as goal

pub returns-in_default-clause-undo : goal.returns-in_default-clause-undo
returns-in_default-clause-undo g c = same_none c.args.marked.now

pub returns-in_err-is_cleared_now-clause-undo : goal.returns-in_err-is_cleared_now-clause-undo
returns-in_err-is_cleared_now-clause-undo g c = same_none c.args.marked.now

pub returns-then-not-branch-clause-undo : goal.returns-then-not-branch-clause-undo
returns-then-not-branch-clause-undo g c = same_none c.args.marked.now

pub returns-in_err-is_cleared_now-clause-marks : goal.returns-in_err-is_cleared_now-clause-marks
returns-in_err-is_cleared_now-clause-marks g c =
    let p = err_from_is_err_and c.from_residual.result c.from_residual.ensures.1 in
    record {
      marks = rw (p.1, p.2)
          (marks_block _ _ c.args.block.now c.in-Action.action _ _ _ _ _ (ap (λ b. as_action (shown_block b)) c.in-Action.is) (marks_error _ _ c.in-Action.action _ _ _ _ c.in_err-is_cleared_now.ensures));
      marked = refl;
      good = c.requires.good;
    }

pub returns-then-not-branch-clause-marks : goal.returns-then-not-branch-clause-marks
returns-then-not-branch-clause-marks g c =
    let marks = marks_block _ _ c.args.block.now c.in-Action.action _ _ _ _ _ (ap (λ b. as_action (shown_block b)) c.in-Action.is)
    (marks_none _ _ c.in-Action.action c.in_ok-is_cleared_now.field-0 _ _ _ c.if-not-branch.true c.in_ok-is_cleared_now.ensures) in
    record { marks = marks; marked = refl; good = c.requires.good }

pub clear-requires-clause-ended : goal.clear-requires-clause-ended
clear-requires-clause-ended g c =
    let may : may_clear (last_row (rows_at c.in-Action.action.id c.args.marked.now)) ≡ true = tested_true _ _ _ c.in-Action.action _ _ _ c.if-not-branch.false c.in_ok-is_cleared_now.ensures in
    subst (λ (a : Action). IsSomeAnd (last_row (rows_at a.id c.args.marked.now)) HasEnded) (sym c.action.ensures) (may_ended _ may)

pub clear-requires-clause-unmarked : goal.clear-requires-clause-unmarked
clear-requires-clause-unmarked g c =
    let may : may_clear (last_row (rows_at c.in-Action.action.id c.args.marked.now)) ≡ true = tested_true _ _ _ c.in-Action.action _ _ _ c.if-not-branch.false c.in_ok-is_cleared_now.ensures in
    subst (λ (a : Action). IsSomeAnd (last_row (rows_at a.id c.args.marked.now)) (λ row. row.cleared ≡ None)) (sym c.action.ensures) (may_unmarked _ may)

pub returns-clause-undo : goal.returns-clause-undo
returns-clause-undo g c =
    let fits : SFits w64 c.moment.result = search rules in
    let is : c.clear.new.self ≡ with_cleared c.in-Action.action.id c.args.time.now.moment c.args.marked.now =
    (simp to_z-of_z at c.clear.ensures) ∙ (λ j. with_cleared (c.action.ensures j).id (c.moment.ensures.value j) c.args.marked.now) in
    let may : may_clear (last_row (rows_at c.in-Action.action.id c.args.marked.now)) ≡ true = tested_true _ _ _ c.in-Action.action _ _ _ c.if-not-branch.false c.in_ok-is_cleared_now.ensures in
    subst (UndoneSame c.args.marked.now) (sym is) (same_marked c.in-Action.action.id c.args.time.now.moment c.args.marked.now may)

pub returns-clause-marks : goal.returns-clause-marks
returns-clause-marks g c =
    let fits : SFits w64 c.moment.result = search rules in
    let is : c.clear.new.self ≡ with_cleared c.in-Action.action.id c.args.time.now.moment c.args.marked.now =
    (simp to_z-of_z at c.clear.ensures) ∙ (λ j. with_cleared (c.action.ensures j).id (c.moment.ensures.value j) c.args.marked.now) in
    let may : may_clear (last_row (rows_at c.in-Action.action.id c.args.marked.now)) ≡ true = tested_true _ _ _ c.in-Action.action _ _ _ c.if-not-branch.false c.in_ok-is_cleared_now.ensures in
    let ended : IsSomeAnd (last_row (rows_at c.action.result.now.id c.args.marked.now)) HasEnded =
    subst (λ (a : Action). IsSomeAnd (last_row (rows_at a.id c.args.marked.now)) HasEnded) (sym c.action.ensures) (may_ended _ may) in
    record {
      marks = marks_block _ _ c.args.block.now c.in-Action.action _ _ _ _ _ (ap (λ b. as_action (shown_block b)) c.in-Action.is)
          (marks_one _ _ c.in-Action.action c.in_ok-is_cleared_now.field-0 _ _ _ _ c.if-not-branch.false c.in_ok-is_cleared_now.ensures is);
      marked = subst (λ hs. AreMarked c.args.marked.now hs) (sym c.clear.ensures) (cleared_marked c.action.result.now.id _ c.args.marked.now);
      good = subst AreHistories (sym (simp to_z-of_z at c.clear.ensures)) (c.changed_histories_can_be_saved.ensures.cleared c.args.marked.now c.action.result.now.id c.moment.result c.requires.good c.moment.ensures.moment ended);
    }
