use Rattle.std.proofs.Common.{ℕ, ◌≡◌, ◌<◌, ◌≤◌, List, length, All, Some, Ok, refl, sym, subst, ◌∙◌, arith}
use Rattle.std.proofs.lemmas.List.Elements.{All-nil}
use Rattle.bf_world.specs.Worlds.{WorldState}
use Rattle.bf_machine.proofs.Looking.{OnlyLooks-refl, OnlyLooks-trans}
use Rattle.desk_base.specs.Counts.{CountsIf, Rose}
use Rattle.rel_trace.specs.Trace.{Trace}
use Rattle.rel_eval.specs.Cursors.{cursor_rest}
use Rattle.rel_eval.specs.Cuts.{meaning}
use Rattle.rel_eval.specs.Questions.{plan_of}
use Rattle.group_sample.specs.declared.drawing.Brought.{Brought}
use Rattle.group_sample.specs.declared.drawing.Drawn.{Drawn}
use Rattle.group_sample.specs.Drawing.{Brings, BringsShort, brought_failed, drawn}
use Rattle.group_sample.specs.Rows.{most_values}
use Rattle.group_sample.proofs.Bringing.{GoesOn, drawn_parts, few_more, fewer_left, goes_first, goes_full, goes_last, goes_value, short_more, within_bounds}
use Rattle.group_sample.proofs.drawing.draw.Goals as goal

pub value-init : goal.value-init
value-init g c =
    let offset = c.args.scene.now.offset in
    let whole : WorldState → Trace = λ w. meaning w c.args.scene.now (plan_of c.args.question.now) in
    let P : List ℕ → Type 0 = λ text. length text ≤ 1024 in
    let A : List (List ℕ) → Type 0 = All P in
    record {
      few = omega arith;
      short = subst A (sym c.new-texts.ensures.items) (All-nil P);
      looks = OnlyLooks-refl _;
      steady = refl;
      goes = λ w told. let G : List (List ℕ) → Type 0 = λ l. GoesOn offset (drawn offset most_values (whole w)) l (cursor_rest w c.in_ok-cursor.cursor) in
          subst G (sym c.new-texts.ensures.items) (goes_first offset (whole w) (cursor_rest w c.in_ok-cursor.cursor) (sym (c.in_ok-cursor.ensures.rest w)));
    }

pub value-preserved : goal.value-preserved
value-preserved g c =
    let so = c.value.invariant in
    let offset = c.args.scene.now.offset in
    let texts : List (List ℕ) = c.value.texts.items in
    let new : List (List ℕ) = c.push.new.self.items in
    let whole : WorldState → Drawn = λ w. drawn offset most_values (meaning w c.args.scene.now (plan_of c.args.question.now)) in
    let B : Brought → Type 0 = λ b. (w : WorldState) → (g.M.Machine.told c.value.machine).world ≡ Some w → Brings offset (cursor_rest w c.value.cursor) b (cursor_rest w c.bring.new.cursor) in
    let C : Brought → Type 0 = λ b. CountsIf (brought_failed (Ok b)) (g.M.Machine.told c.value.machine).faults (g.M.Machine.told c.bring.new.machine).faults in
    let brings = subst B c.in-Value.is c.in_ok-text.ensures.brings in
    let short = subst BringsShort c.in-Value.is c.in_ok-text.ensures.short in
    let same = subst C c.in-Value.is c.in_ok-text.ensures.cause in
    let few : length texts < most_values = omega (arith, c.value-test.true, c.value.texts.ok.0) in
    let put = c.in_ok-push-in-Value.ensures.items in
    record {
      few = few_more texts new c.in-Value.text put few;
      short = short_more texts new c.in-Value.text put so.short short;
      looks = OnlyLooks-trans so.looks c.in_ok-text.ensures.looks;
      steady = same ∙ so.steady;
      goes = λ w told. let G : List (List ℕ) → Type 0 = λ l. GoesOn offset (whole w) l (cursor_rest w c.bring.new.cursor) in
          subst G (sym put) (goes_value offset (whole w) texts c.in-Value.text (cursor_rest w c.value.cursor) (cursor_rest w c.bring.new.cursor) (so.goes w told) few (brings w (so.looks.world ∙ told)));
    }

pub value-smaller : goal.value-smaller
value-smaller g c =
    let few : length c.value.texts.items < most_values = omega (arith, c.value-test.true, c.value.texts.ok.0) in
    fewer_left c.value.texts.items c.push.new.self.items c.in-Value.text c.in_ok-push-in-Value.ensures.items few

pub returns-in-Last-clause-drawn : goal.returns-in-Last-clause-drawn
returns-in-Last-clause-drawn g c = λ w told.
    let so = c.value.invariant in
    let offset = c.args.scene.now.offset in
    let texts : List (List ℕ) = c.value.texts.items in
    let B : Brought → Type 0 = λ b. (v : WorldState) → (g.M.Machine.told c.value.machine).world ≡ Some v → Brings offset (cursor_rest v c.value.cursor) b (cursor_rest v c.bring.new.cursor) in
    let brings = subst B c.in-Last.is c.in_ok-text.ensures.brings in
    let few : length texts < most_values = omega (arith, c.value-test.true, c.value.texts.ok.0) in
    drawn_parts c.into_drawn.result texts c.in-Last.error c.into_drawn.ensures.values c.into_drawn.ensures.error
    ∙ sym (goes_last offset (drawn offset most_values (meaning w c.args.scene.now (plan_of c.args.question.now))) texts c.in-Last.error (cursor_rest w c.value.cursor) (cursor_rest w c.bring.new.cursor)
    (so.goes w told) few (brings w (so.looks.world ∙ told)))

pub returns-in-Last-clause-within : goal.returns-in-Last-clause-within
returns-in-Last-clause-within g c =
    within_bounds c.into_drawn.result c.value.texts.items c.into_drawn.ensures.values c.value.invariant.few c.value.invariant.short

pub returns-in-Last-clause-cause : goal.returns-in-Last-clause-cause
returns-in-Last-clause-cause g c =
    let C : Brought → Type 0 = λ b. CountsIf (brought_failed (Ok b)) (g.M.Machine.told c.value.machine).faults (g.M.Machine.told c.bring.new.machine).faults in
    subst C c.in-Last.is c.in_ok-text.ensures.cause ∙ c.value.invariant.steady

pub returns-in-Last-clause-looks : goal.returns-in-Last-clause-looks
returns-in-Last-clause-looks g c = OnlyLooks-trans c.value.invariant.looks c.in_ok-text.ensures.looks

pub returns-in-Nothing-clause-cause : goal.returns-in-Nothing-clause-cause
returns-in-Nothing-clause-cause g c =
    let C : Brought → Type 0 = λ b. CountsIf (brought_failed (Ok b)) (g.M.Machine.told c.value.machine).faults (g.M.Machine.told c.bring.new.machine).faults in
    let R : ℕ → Type 0 = λ n. Rose n (g.M.Machine.told c.bring.new.machine).faults in
    subst R c.value.invariant.steady (subst C c.in-Nothing.is c.in_ok-text.ensures.cause)

pub returns-in-Nothing-clause-looks : goal.returns-in-Nothing-clause-looks
returns-in-Nothing-clause-looks g c = OnlyLooks-trans c.value.invariant.looks c.in_ok-text.ensures.looks

pub returns-clause-drawn : goal.returns-clause-drawn
returns-clause-drawn g c = λ w told.
    let offset = c.args.scene.now.offset in
    let many : most_values ≤ length c.value.texts.items = omega (arith, c.value-test.false, c.value.texts.ok.0) in
    drawn_parts c.into_drawn-2.result c.value.texts.items _ c.into_drawn-2.ensures.values c.into_drawn-2.ensures.error
    ∙ sym (goes_full offset (drawn offset most_values (meaning w c.args.scene.now (plan_of c.args.question.now))) c.value.texts.items (cursor_rest w c.value.cursor) (c.value.invariant.goes w told) many)

pub returns-clause-within : goal.returns-clause-within
returns-clause-within g c =
    within_bounds c.into_drawn-2.result c.value.texts.items c.into_drawn-2.ensures.values c.value.invariant.few c.value.invariant.short

pub returns-clause-cause : goal.returns-clause-cause
returns-clause-cause g c = c.value.invariant.steady

pub returns-clause-looks : goal.returns-clause-looks
returns-clause-looks g c = c.value.invariant.looks
