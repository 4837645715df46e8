use Rattle.std.proofs.Common.{◌≡◌, ℤ, pos, ap, sym, subst, ◌∙◌, arith, FitsSigned, w8, w16, w64, to_z, of_z, unsigned_abs, Fits}
use Rattle.std.proofs.lemmas.Int.{to_z-of_z, to_z_pos}
use Rattle.jiff_core.specs.declared.civil.date.Date.{Date}
use Rattle.rel_value.specs.declared.calendar.CivilDate.{CivilDate}
use Rattle.rel_value.specs.Calendar.{date_after}
use Rattle.rel_value.proofs.Calendars.{SameDate, added-date, date-bounded, dates-same}
use Rattle.rel_value.proofs.calendar.date_after.Goals as goal
use lib.Dec.{T}
use lib.Signed.{non_neg}

pub overflow_cast-result : goal.overflow_cast-result
overflow_cast-result c =
    let fits : FitsSigned w64 c.from.result = record { sfits = c.from.type_inv } in
    let only = simp to_z-of_z at c.days.ensures in
    let S : Date → Type 0 = λ d. SameDate d (date_after c.args.days) in
    let same = subst S (sym c.unwrap_or-day.ensures) (added-date c.date-first.result c.days.result c.from.result c.args.days c.checked_add.result c.date-first.ensures c.requires c.from.ensures only c.checked_add.ensures.succeeds c.checked_add.ensures.value) in
    let bound = date-bounded c.args.days c.requires in
    let year : to_z w16 (of_z w16 c.year.result) ≡ pos (date_after c.args.days).year = ap (λ z. to_z w16 (of_z w16 z)) (c.year.ensures ∙ same.year) ∙ to_z_pos w16 (date_after c.args.days).year (omega (arith, bound.year_high)) in
    let F : ℤ → Type 0 = λ z. T (non_neg z) × Fits w16 (unsigned_abs z) in
    subst F (sym year) (tt, omega (arith, bound.year_high))

pub returns-clause-value : goal.returns-clause-value
returns-clause-value c =
    let fits : FitsSigned w64 c.from.result = record { sfits = c.from.type_inv } in
    let only = simp to_z-of_z at c.days.ensures in
    let S : Date → Type 0 = λ d. SameDate d (date_after c.args.days) in
    let same = subst S (sym c.unwrap_or-day.ensures) (added-date c.date-first.result c.days.result c.from.result c.args.days c.checked_add.result c.date-first.ensures c.requires c.from.ensures only c.checked_add.ensures.succeeds c.checked_add.ensures.value) in
    let bound = date-bounded c.args.days c.requires in
    let d = date_after c.args.days in
    let year : unsigned_abs (to_z w16 (of_z w16 c.year.result)) ≡ d.year = ap (λ z. unsigned_abs (to_z w16 (of_z w16 z))) (c.year.ensures ∙ same.year) ∙ ap unsigned_abs (to_z_pos w16 d.year (omega (arith, bound.year_high))) in
    let month : unsigned_abs (to_z w8 (of_z w8 c.month.result)) ≡ d.month = ap (λ z. unsigned_abs (to_z w8 (of_z w8 z))) (c.month.ensures ∙ ap pos same.month) ∙ ap unsigned_abs (to_z_pos w8 d.month (omega (arith, bound.month_high))) in
    let day : unsigned_abs (to_z w8 (of_z w8 c.day.result)) ≡ d.day = ap (λ z. unsigned_abs (to_z w8 (of_z w8 z))) (c.day.ensures ∙ ap pos same.day) ∙ ap unsigned_abs (to_z_pos w8 d.day (omega (arith, bound.day_high))) in
    dates-same _ _ _ d year month day

pub returns-clause-year : goal.returns-clause-year
returns-clause-year c = let e = ap (λ (d : CivilDate). d.year) (returns-clause-value c) in let b = date-bounded c.args.days c.requires in omega (arith, e, b.year_high)

pub returns-clause-day : goal.returns-clause-day
returns-clause-day c = let e = ap (λ (d : CivilDate). d.day) (returns-clause-value c) in let b = date-bounded c.args.days c.requires in omega (arith, e, b.day_high)
