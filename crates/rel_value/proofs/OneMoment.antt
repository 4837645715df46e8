-- A text is the time text of one moment at most.
use Rattle.std.proofs.Common.{◌≡◌, ℕ, zero, suc, ◌/◌, ◌%◌, ◌≤◌, ℤ, pos, negsuc, cond, nat_eq, List, Some, ◌↔◌, refl, sym, ap, ◌∙◌, arith, unsigned_abs, codes}
use Rattle.std.proofs.lemmas.Int.{ints}
use Rattle.std.specs.Cmp.Lexicographic.{pointwise}
use Rattle.std.specs.Int.{is_negative}
use Rattle.desk_base.specs.Moments.{IsMoment}
use Rattle.line_forms.specs.Numbers.{IsOffset}
use Rattle.rel_value.specs.Calendar.{date_after}
use Rattle.rel_value.specs.Spellings.{month_name, shown_seconds, time_text}
use Rattle.rel_value.specs.TimesRead.{time_of}
use Rattle.rel_value.proofs.Calendars.{date-bounded, dates-same, days-one}
use Rattle.rel_value.proofs.TimeReads.{laid, shown-is, shown-small, clock-back, year-back, size-back, not-negative, Shows, read-some, read-from}

abbrev index : List ℕ → ℕ
index l =
    cond (pointwise nat_eq l (codes "Jan")) 1 (cond (pointwise nat_eq l (codes "Feb")) 2 (cond (pointwise nat_eq l (codes "Mar")) 3 (
    cond (pointwise nat_eq l (codes "Apr")) 4 (cond (pointwise nat_eq l (codes "May")) 5 (cond (pointwise nat_eq l (codes "Jun")) 6 (
    cond (pointwise nat_eq l (codes "Jul")) 7 (cond (pointwise nat_eq l (codes "Aug")) 8 (cond (pointwise nat_eq l (codes "Sep")) 9 (
    cond (pointwise nat_eq l (codes "Oct")) 10 (cond (pointwise nat_eq l (codes "Nov")) 11 12))))))))))

index-back : (m : ℕ) → 1 ≤ m → m ≤ 12 → index (month_name m) ≡ m
index-back zero low high = absurd (omega arith)
index-back (suc zero) low high = refl
index-back (suc (suc zero)) low high = refl
index-back (suc (suc (suc zero))) low high = refl
index-back (suc (suc (suc (suc zero)))) low high = refl
index-back (suc (suc (suc (suc (suc zero))))) low high = refl
index-back (suc (suc (suc (suc (suc (suc zero)))))) low high = refl
index-back (suc (suc (suc (suc (suc (suc (suc zero))))))) low high = refl
index-back (suc (suc (suc (suc (suc (suc (suc (suc zero)))))))) low high = refl
index-back (suc (suc (suc (suc (suc (suc (suc (suc (suc zero))))))))) low high = refl
index-back (suc (suc (suc (suc (suc (suc (suc (suc (suc (suc zero)))))))))) low high = refl
index-back (suc (suc (suc (suc (suc (suc (suc (suc (suc (suc (suc zero))))))))))) low high = refl
index-back (suc (suc (suc (suc (suc (suc (suc (suc (suc (suc (suc (suc zero)))))))))))) low high = refl
index-back (suc (suc (suc (suc (suc (suc (suc (suc (suc (suc (suc (suc (suc m))))))))))))) low high = absurd (omega arith)

one-offset : (o p : ℤ) → unsigned_abs o ≡ unsigned_abs p → cond {A = ℕ} (is_negative o) 45 43 ≡ cond {A = ℕ} (is_negative p) 45 43 → o ≡ p
one-offset (pos m) (pos n) size sign = ap pos size
one-offset (pos m) (negsuc n) size sign = let g = rw (not-negative m) at sign in absurd (omega (arith, g))
one-offset (negsuc m) (pos n) size sign = let g = rw (not-negative n) at sign in absurd (omega (arith, g))
one-offset (negsuc m) (negsuc n) size sign = ap negsuc (omega (arith, size))

pub one-moment : (text : List ℕ) (m o n p : ℤ) → Shows text m o → Shows text n p → m ≡ n
one-moment text m o n p f g =
    let l = laid text m o f.0 f.1 f.2 in
    let k = laid text n p g.0 g.1 g.2 in
    let s = shown_seconds m o in
    let t = shown_seconds n p in
    let ss = shown-small m o f.0 f.1 in
    let st = shown-small n p g.0 g.1 in
    let bd = date-bounded (s / 86400) (omega (arith, ss)) in
    let be = date-bounded (t / 86400) (omega (arith, st)) in
    let offset = one-offset o p
    (sym (size-back _ _ (unsigned_abs o) l.offset_hour l.offset_minute) ∙ size-back _ _ (unsigned_abs p) k.offset_hour k.offset_minute)
    (sym l.sign ∙ k.sign) in
    let clock = sym (clock-back _ _ _ (s % 86400) (omega arith) l.hour l.minute l.second) ∙ clock-back _ _ _ (t % 86400) (omega arith) k.hour k.minute k.second in
    let year = sym (year-back _ (date_after (s / 86400)).year _ l.century l.year) ∙ year-back _ (date_after (t / 86400)).year _ k.century k.year in
    let day = sym l.day ∙ k.day in
    let month = sym (index-back (date_after (s / 86400)).month bd.month_low bd.month_high) ∙ ap index (l.month ∙ sym k.month) ∙ index-back (date_after (t / 86400)).month be.month_low be.month_high in
    let days = days-one (s / 86400) (t / 86400) (omega (arith, ss)) (omega (arith, st)) (dates-same _ _ _ (date_after (t / 86400)) year month day) in
    let shown : s ≡ t = omega (arith, days, clock) in
    let a = shown-is m o f.0 f.1 in
    let b = shown-is n p g.0 g.1 in
    omega (arith, ints, shown, a, b, offset)

pub read-as-written : (text : List ℕ) (moment : ℕ) → (time_of text ≡ Some moment) ↔ (IsMoment (pos moment) × ((offset : ℤ) × IsOffset offset × (text ≡ time_text (pos moment) offset)))
read-as-written text moment = (
  read-from text moment,
  λ h. read-some text (pos moment) h.1.0 (h.0, h.1.1, h.1.2) (λ m o shows. one-moment text m o (pos moment) h.1.0 shows (h.0, h.1.1, h.1.2)),
)
