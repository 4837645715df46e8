use Rattle.std.proofs.Common.{◌≡◌, ℕ, ℤ, pos, ◌<◌, ◌≤◌, Some, ap, sym, subst, ◌∙◌, arith, w8, w16, to_z}
use Rattle.std.proofs.lemmas.Int.{to_z_pos, ints}
use Rattle.jiff.specs.Words.{IsDate, IsYmd}
use Rattle.rel_value.specs.declared.calendar.CivilDate.{CivilDate}
use Rattle.rel_value.specs.Calendar.{date_after}
use Rattle.rel_value.proofs.Calendars.{date-bounded, is-date, seconds-are, from-ok}
use Rattle.rel_value.proofs.calendar.days_to.Goals as goal
use Rattle.rel_value.proofs.calendar.days_to.Goals.{then-year-gt9999-via-then-year-gt9999, then-year-gt9999-via-else-year-gt9999+then-day-gt31, then-seconds-lt0-via-then-seconds-lt0, then-seconds-lt0-via-else-seconds-lt0+then-seconds}

pub returns-then-year-gt9999-clause-value : goal.returns-then-year-gt9999-clause-value
returns-then-year-gt9999-clause-value c = λ days few e.
    let b = date-bounded days few in
    let y = ap (λ (d : CivilDate). d.year) e in
    let m = ap (λ (d : CivilDate). d.day) e in
    elim c.then-year-gt9999.branch [
      | then-year-gt9999-via-then-year-gt9999 w ↦ absurd (omega (arith, y, b.year_high, w.if-year-gt9999.true))
      | then-year-gt9999-via-else-year-gt9999+then-day-gt31 w ↦ absurd (omega (arith, m, b.day_high, w.if-day-gt31.true))
    ]

-- the casts keep the numbers
narrow-year : (y days m d : ℕ) → days < 2000000 → date_after days ≡ (let one : CivilDate = record { year = y; month = m; day = d } in one) → (to_z w16 y ≡ pos y) × (to_z w8 m ≡ pos m) × (to_z w8 d ≡ pos d)
narrow-year y days m d few e =
    let b = date-bounded days few in
    let P : CivilDate → Type 0 = λ c. (c.year < 10000) × (c.month ≤ 12) × (c.day ≤ 31) in
    let h = subst P e (b.year_high, b.month_high, b.day_high) in
    (to_z_pos w16 y (omega (arith, h.0)), to_z_pos w8 m (omega (arith, h.1)), to_z_pos w8 d (omega (arith, h.2)))

pub returns-in_err-day-clause-value : goal.returns-in_err-day-clause-value
returns-in_err-day-clause-value c = λ days few e.
    let is = is-date days c.args.year c.args.month c.args.day few e in
    let n = narrow-year c.args.year days c.args.month c.args.day few e in
    let F : ℤ → Type 0 = λ z. IsDate z (to_z w8 c.args.month) (to_z w8 c.args.day) in
    let G : ℤ → Type 0 = λ z. IsDate (pos c.args.year) z (to_z w8 c.args.day) in
    let H : ℤ → Type 0 = λ z. IsDate (pos c.args.year) (pos c.args.month) z in
    let ok = c.new.ensures.succeeds.1 (subst F (sym n.0) (subst G (sym n.1) (subst H (sym n.2) is))) in
    let v = c.in_err-day.ensures.variant in
    cc (ok, v)

pub returns-then-seconds-lt0-clause-value : goal.returns-then-seconds-lt0-clause-value
returns-then-seconds-lt0-clause-value c = λ days few e.
    let n = narrow-year c.args.year days c.args.month c.args.day few e in
    let ymd = from-ok (IsYmd (to_z w16 c.args.year) (to_z w8 c.args.month) (to_z w8 c.args.day)) c.new.result c.in_ok-day.day c.in_ok-day.ensures.value c.new.ensures.value in
    let seconds = seconds-are c.in_ok-day.day c.date.result _ c.as_secs-seconds.result days c.args.year c.args.month c.args.day few e (ymd.0 ∙ n.0, ymd.1 ∙ n.1, ymd.2 ∙ n.2) c.date.ensures c.duration_since.ensures c.as_secs-seconds.ensures in
    elim c.then-seconds-lt0.branch [
      | then-seconds-lt0-via-then-seconds-lt0 w ↦ absurd (omega (arith, ints, seconds, w.if-seconds-lt0.true))
      | then-seconds-lt0-via-else-seconds-lt0+then-seconds w ↦ absurd (omega (arith, ints, seconds, w.if-seconds.true))
    ]

pub returns-clause-value : goal.returns-clause-value
returns-clause-value c = λ days few e.
    let n = narrow-year c.args.year days c.args.month c.args.day few e in
    let ymd = from-ok (IsYmd (to_z w16 c.args.year) (to_z w8 c.args.month) (to_z w8 c.args.day)) c.new.result c.in_ok-day.day c.in_ok-day.ensures.value c.new.ensures.value in
    let seconds = seconds-are c.in_ok-day.day c.date.result _ c.as_secs-seconds.result days c.args.year c.args.month c.args.day few e (ymd.0 ∙ n.0, ymd.1 ∙ n.1, ymd.2 ∙ n.2) c.date.ensures c.duration_since.ensures c.as_secs-seconds.ensures in
    ap Some (omega (arith, ints, seconds))
