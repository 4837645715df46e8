use Rattle.std.proofs.Common.{Bool, ℕ, List, subst, sym, ◌≡◌, ◌∙◌, true, false}
use Rattle.std.specs.Prelude.{◌||◌}
use Rattle.std.proofs.lemmas.Bool.{iff_false}
use Rattle.office_text.proofs.TargetLemmas.{ActionSoFar, action_cut, action_early, action_last, action_more, action_none, is_missing, or_before, or_here}
use Rattle.office_text.proofs.target_reader.take_action.Goals.{else-last-via-then-last+else-not-for_all, else-last-via-else-last, then-is_for_all, else-is_for_all}
use Rattle.office_text.proofs.target_reader.take_action.Goals as goal

pub loop-line-init : goal.loop-line-init
loop-line-init c =
    let A : List ℕ → Type 0 = λ text. ActionSoFar c.args.lines.now c.args.lines.now text false in
    subst A (sym c.new-text.ensures) (action_none c.args.lines.now)

pub returns-then-not-for_all : goal.returns-then-not-for_all
returns-then-not-for_all c =
    action_early c.args.lines.now c.loop-line.lines c.in-Some.line.now c.loop-line.text c.in-Some.ensures.0 c.loop-line.for_all c.loop-line.invariant (is_missing c.loop-line.for_all c.if-not-for_all.true) c.in-Some.ensures.1
    (c.is_last-last.ensures.0 c.if-last.true)

pub returns-then-last-2 : goal.returns-then-last-2
returns-then-last-2 c =
    let one = c.skip_line.ensures c.in-Some.line.now c.in-Some.ensures.0 c.in-Some.ensures.1 in
    let found : c.loop-line.for_all ≡ true = elim c.else-last.branch [
      | else-last-via-then-last+else-not-for_all w ↦ w.if-not-for_all.false
      | else-last-via-else-last w ↦ absurd (let k : true ≡ false = sym c.if-last-2.true ∙ w.if-last.false in cc)
    ] in
    action_last c.args.lines.now c.loop-line.lines c.skip_line.new.self c.in-Some.line.now c.loop-line.text c.extend.new.self c.push.new.self c.loop-line.for_all
    c.loop-line.invariant found (c.is_last-last.ensures.0 c.if-last-2.true) one c.in_ok-extend.ensures.ok c.in_ok-push.ensures.ok

pub loop-line-preserved : goal.loop-line-preserved
loop-line-preserved c =
    let one = c.skip_line.ensures c.in-Some.line.now c.in-Some.ensures.0 c.in-Some.ensures.1 in
    let A : Bool → Type 0 = ActionSoFar c.args.lines.now c.skip_line.new.self c.push.new.self in
    let e : (c.is_for_all.result || c.loop-line.for_all) ≡ c.if-is_for_all.for_all = elim c.if-is_for_all.branch [
      | then-is_for_all w ↦ or_here c.is_for_all.result c.loop-line.for_all c.if-is_for_all.for_all w.if-is_for_all.true w.for_all-is
      | else-is_for_all w ↦ or_before c.is_for_all.result c.loop-line.for_all c.if-is_for_all.for_all w.if-is_for_all.false w.for_all-is
    ] in
    subst A e (
    action_more c.args.lines.now c.loop-line.lines c.skip_line.new.self c.in-Some.line.now c.loop-line.text c.extend.new.self c.push.new.self c.loop-line.for_all c.is_for_all.result
    c.loop-line.invariant one c.in_ok-extend.ensures.ok c.in_ok-push.ensures.ok (iff_false c.is_last-last.ensures c.if-last-2.false) c.is_for_all.ensures
    )

pub returns : goal.returns
returns c = action_cut c.args.lines.now c.loop-line.lines c.loop-line.text c.loop-line.for_all c.loop-line.invariant c.in_default.ensures
