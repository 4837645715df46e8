-- A comparison that gives a value gives True or not.
use Rattle.std.proofs.Common.{◌≡◌, Bool, true, false, refl, sym, subst, ◌∙◌}
use Rattle.std.specs.Prelude.{if◌then◌else◌}
use Rattle.rel_value.specs.Plain.{Plain}
use Rattle.rel_value.specs.Outcomes.{Outcome, gives, fails, no_row}
use Rattle.rel_trace.specs.declared.worked.Worked.{Worked}
use Rattle.rel_trace.specs.declared.worked.Worked.TheVariants.{Given}
use Rattle.rel_trace.specs.Trace.{is_true}
use Rattle.rel_trace.specs.Folds.{later_if}
use Rattle.rel_trace.specs.Works.{Works}
use Rattle.rel_trace.proofs.operation.later_where.Goals as goal

chosen : (o : Outcome) (earlier later holds : Plain) (w : Worked) (t : Bool) → w ≡ Given holds → Works o w → is_true holds ≡ t → Works (later_if earlier later o) (Given (if t then later else earlier))
chosen (gives x) earlier later holds w t e h k =
    let q : holds ≡ x = subst (λ (y : Worked). Works (gives x) y) e h in
    subst (λ (y : Plain). (if t then later else earlier) ≡ (if is_true y then later else earlier)) q
    (subst (λ (b : Bool). (if t then later else earlier) ≡ (if b then later else earlier)) (sym k) refl)
chosen (fails why) earlier later holds w t e h k = absurd (subst (λ (y : Worked). Works (fails why) y) e h)
chosen no_row earlier later holds w t e h k = absurd (subst (λ (y : Worked). Works no_row y) e h)

pub returns-then-is_later : goal.returns-then-is_later
returns-then-is_later c = λ o h. chosen o c.args.earlier c.args.later c.in-Given.holds c.args.compared true c.in-Given.is h (sym c.is_true-is_later.ensures ∙ c.if-is_later.true)

pub returns-else-is_later : goal.returns-else-is_later
returns-else-is_later c = λ o h. chosen o c.args.earlier c.args.later c.in-Given.holds c.args.compared false c.in-Given.is h (sym c.is_true-is_later.ensures ∙ c.if-is_later.false)
