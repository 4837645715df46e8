-- The calendar of whole years and months is the library's.
use Rattle.std.proofs.Common.{◌≡◌, ℕ, zero, suc, ◌+◌, ◌-◌, ◌*◌, ◌/◌, ◌<◌, ◌≤◌, ◌==◌, ◌↔◌, ℤ, pos, negsuc, ◌+ℤ◌, ◌-ℤ◌, ◌*ℤ◌, int_div, ◌≤ℤ◌, Bool, true, false, ◌||◌, cond, nat_lt, List, [], ◌∷◌, Some, Result, Ok, Err, IsOk, IfOk, refl, sym, ap, subst, ◌∙◌, arith}
use Rattle.std.specs.Result.{result_unwrap_or, result_ok}
use Rattle.std.proofs.lemmas.Bool.Decides.{Decides-ltb, nat_tests}
use Rattle.jiff.specs.Words.{days_in_month, epoch_day, IsDate, IsEpochDay, IsYmd, IsOnly, CanAddToDate, date_add}
use Rattle.jiff_core.specs.declared.span.Span.{Span}
use Rattle.jiff_core.specs.declared.unit.Unit.TheVariants.{Day}
use Rattle.jiff_core.specs.Calendar.{days_from_civil}
use Rattle.jiff_core.specs.declared.civil.date.Date.{Date}
use Rattle.jiff.proofs.Family.{days_from_civil-day, days_from_civil-next_month, days_from_civil-next_year, epoch_day_injective}
use Rattle.jiff.proofs.SpanFacts.{signed_arith, can_add-days, date_add-days}
use Rattle.rel_value.specs.declared.calendar.CivilDate.{CivilDate}
use Rattle.rel_value.specs.Calendar.{is_leap_year, days_in_year, month_lengths, MonthDay, month_day, in_year, date_from, date_after}

-- these are the lengths of the months from this one to the last
abbrev MonthsFrom : ℕ → ℕ → List ℕ → Type 0
MonthsFrom year month [] = month ≡ 13
MonthsFrom year month (l ∷ ls) = (1 ≤ month) × (1 ≤ l) × (l ≡ days_in_month (pos year) month) × MonthsFrom year (month + 1) ls

feb : (b : Bool) → 1 ≤ cond b 29 28
feb true = omega arith
feb false = omega arith

year-months : (year : ℕ) → MonthsFrom year 1 (month_lengths year)
year-months year = (omega arith, omega arith, refl, (omega arith, feb (is_leap_year year), refl, (omega arith, omega arith, refl, (omega arith, omega arith, refl, (omega arith, omega arith, refl, (omega arith, omega arith, refl, (omega arith, omega arith, refl, (omega arith, omega arith, refl, (omega arith, omega arith, refl, (omega arith, omega arith, refl, (omega arith, omega arith, refl, (omega arith, omega arith, refl, refl))))))))))))

next-month : (year month l : ℕ) → 1 ≤ month → 1 ≤ l → l ≡ days_in_month (pos year) month → days_from_civil (pos year) (month + 1) 1 ≡ days_from_civil (pos year) month 1 +ℤ pos l
next-month year month l some long is =
    days_from_civil-next_month (pos year) month l some is ∙ sym (days_from_civil-day (pos year) month 1 l (omega arith) long)

abbrev total : List ℕ → ℕ
total [] = 0
total (l ∷ ls) = l + total ls

add-days : (a b c : ℤ) (m n : ℕ) → a ≡ b +ℤ pos n → b ≡ c +ℤ pos m → a ≡ c +ℤ pos (m + n)
add-days a b c m n e h = omega (arith, signed_arith)

add-none : (a : ℤ) → a ≡ a +ℤ pos 0
add-none a = omega (arith, signed_arith)

months-sum : (year month : ℕ) (ls : List ℕ) → MonthsFrom year month ls → days_from_civil (pos year) 13 1 ≡ days_from_civil (pos year) month 1 +ℤ pos (total ls)
months-sum year month [] h = ap (λ m. days_from_civil (pos year) m 1) (sym h) ∙ add-none (days_from_civil (pos year) month 1)
months-sum year month (l ∷ ls) h =
    add-days (days_from_civil (pos year) 13 1) (days_from_civil (pos year) (month + 1) 1) (days_from_civil (pos year) month 1) l (total ls) (months-sum year (month + 1) ls h.3) (next-month year month l h.0 h.1 h.2)

lengths-sum : (b : Bool) → total (31 ∷ cond b 29 28 ∷ 31 ∷ 30 ∷ 31 ∷ 30 ∷ 31 ∷ 31 ∷ 30 ∷ 31 ∷ 30 ∷ 31 ∷ []) ≡ cond b 366 365
lengths-sum true = refl
lengths-sum false = refl

next-year : (year : ℕ) → days_from_civil (pos (year + 1)) 1 1 ≡ days_from_civil (pos year) 1 1 +ℤ pos (days_in_year year)
next-year year =
    days_from_civil-next_year (pos year) (pos (year + 1)) (omega (arith, signed_arith)) (omega (arith, signed_arith))
    ∙ sym (days_from_civil-next_month (pos year) 12 31 (omega arith) refl)
    ∙ months-sum year 1 (month_lengths year) (year-months year)
    ∙ ap (λ n. days_from_civil (pos year) 1 1 +ℤ pos n) (lengths-sum (is_leap_year year))

-- the month and the day are so many days after the first of a month
record FoundDay (year first : ℕ) (days : ℕ) (md : MonthDay) : Type 0 where
  day_number : days_from_civil (pos year) md.month md.day ≡ days_from_civil (pos year) first 1 +ℤ pos days
  month_in : (1 ≤ md.month) × (md.month ≤ 12)
  day_in : (1 ≤ md.day) × (md.day ≤ days_in_month (pos year) md.month)

month-first : (year month l : ℕ) (ls : List ℕ) → MonthsFrom year month (l ∷ ls) → month ≤ 12
month-first year month l [] h = let e : month + 1 ≡ 13 = h.3 in omega arith
month-first year month l (k ∷ ks) h = let e = month-first year (month + 1) k ks h.3 in omega arith

found-here : (year month l days : ℕ) (ls : List ℕ) → MonthsFrom year month (l ∷ ls) → days < l → FoundDay year month days (record { month = month; day = days + 1 })
found-here year month l days ls h below =
    let move = days_from_civil-day (pos year) month (days + 1) 1 (omega arith) (omega arith) in
    record {
      day_number = omega (arith, signed_arith, move);
      month_in = (h.0, month-first year month l ls h);
      day_in = (omega arith, let P : ℕ → Type 0 = λ n. days + 1 ≤ n in let le : days + 1 ≤ l = omega arith in subst P h.2 le);
    }

found-later : (year month l days : ℕ) (ls : List ℕ) (md : MonthDay) → MonthsFrom year month (l ∷ ls) → l ≤ days → FoundDay year (month + 1) (days - l) md → FoundDay year month days md
found-later year month l days ls md h past found =
    let e = next-month year month l h.0 h.1 h.2 in
    record { day_number = omega (arith, signed_arith, e, found.day_number); month_in = found.month_in; day_in = found.day_in }

pick : {A : Type 0} (P : A → Type 0) (b : Bool) (x y : A) → (b ≡ true → P x) → (b ≡ false → P y) → P (cond b x y)
pick P true x y hit miss = hit refl
pick P false x y hit miss = miss refl

not-below : (a b : ℕ) → nat_lt a b ≡ false → b ≤ a
not-below a b h = grind (arith, nat_tests)

found-month : (year month : ℕ) (ls : List ℕ) (days : ℕ) → MonthsFrom year month ls → days < total ls → FoundDay year month days (month_day month ls days)
found-month year month [] days h below = absurd (omega arith)
found-month year month (l ∷ ls) days h below =
    let P : MonthDay → Type 0 = FoundDay year month days in
    pick P (nat_lt days l) (record { month = month; day = days + 1 }) (month_day (month + 1) ls (days - l))
    (λ hit. found-here year month l days ls h ((Decides-ltb days l).0 hit))
    (λ miss. let past = not-below days l miss in found-later year month l days ls (month_day (month + 1) ls (days - l)) h past (found-month year (month + 1) ls (days - l) h.3 (omega arith)))

-- the date is so many days after a day
pub record FoundDate (start : ℤ) (days : ℕ) (date : CivilDate) : Type 0 where
  pub day_number : days_from_civil (pos date.year) date.month date.day ≡ start +ℤ pos days
  pub month_in : (1 ≤ date.month) × (date.month ≤ 12)
  pub day_in : (1 ≤ date.day) × (date.day ≤ days_in_month (pos date.year) date.month)

found-in : (year days : ℕ) → days < days_in_year year → FoundDate (days_from_civil (pos year) 1 1) days (in_year year (month_day 1 (month_lengths year) days))
found-in year days below =
    let found = found-month year 1 (month_lengths year) days (year-months year) (let e = lengths-sum (is_leap_year year) in let P : ℕ → Type 0 = λ n. days < n in subst P (sym e) below) in
    record { day_number = found.day_number; month_in = found.month_in; day_in = found.day_in }

year-long : (b : Bool) → 365 ≤ cond b 366 365
year-long true = omega arith
year-long false = omega arith

found-after : (year days : ℕ) (date : CivilDate) → days_in_year year ≤ days → FoundDate (days_from_civil (pos (year + 1)) 1 1) (days - days_in_year year) date → FoundDate (days_from_civil (pos year) 1 1) days date
found-after year days date past found =
    let e = next-year year in
    record { day_number = shift _ _ _ (days_in_year year) days past e found.day_number; month_in = found.month_in; day_in = found.day_in }
  where
    shift : (a b c : ℤ) (m n : ℕ) → m ≤ n → b ≡ c +ℤ pos m → a ≡ b +ℤ pos (n - m) → a ≡ c +ℤ pos n
    shift a b c m n le e h = omega (arith, signed_arith)

pub found : (years year days : ℕ) → days ≤ 365 * years → FoundDate (days_from_civil (pos year) 1 1) days (date_from years year days)
unfolding date_from
found zero year days few = found-in year days (let long = year-long (is_leap_year year) in omega arith)
found (suc years) year days few =
    let P : CivilDate → Type 0 = FoundDate (days_from_civil (pos year) 1 1) days in
    let long : 365 ≤ days_in_year year = year-long (is_leap_year year) in
    pick P (nat_lt days (days_in_year year)) (in_year year (month_day 1 (month_lengths year) days)) (date_from years (year + 1) (days - days_in_year year))
    (λ hit. found-in year days ((Decides-ltb days (days_in_year year)).0 hit))
    (λ miss. let past = not-below days (days_in_year year) miss in found-after year days (date_from years (year + 1) (days - days_in_year year)) past (found years (year + 1) (days - days_in_year year) (few-left days (days_in_year year) years long past few)))
  where
    few-left : (days l years : ℕ) → 365 ≤ l → l ≤ days → days ≤ 365 * suc years → days - l ≤ 365 * years
    few-left days l years long past few = omega arith

pub years-before : (years year days : ℕ) → (year ≤ (date_from years year days).year) × ((date_from years year days).year ≤ year + years)
unfolding date_from
years-before zero year days = (omega arith, omega arith)
years-before (suc years) year days =
    let P : CivilDate → Type 0 = λ d. (year ≤ d.year) × (d.year ≤ year + suc years) in
    pick P (nat_lt days (days_in_year year)) (in_year year (month_day 1 (month_lengths year) days)) (date_from years (year + 1) (days - days_in_year year))
    (λ hit. (omega arith, omega arith))
    (λ miss. let more = years-before years (year + 1) (days - days_in_year year) in (omega arith, omega arith))

-- ---- what the code makes of the library's dates

ok-value : {T E : Type 0} (P : T → Type 0) (r : Result T E) (other : T) → IsOk r → IfOk r P → P (result_unwrap_or r other)
ok-value P (Ok x) other ok h = h
ok-value P (Err e) other ok h = cc

-- the library's date of such a day number has the year, the month and the day of the calendar
pub record SameDate (date : Date) (same : CivilDate) : Type 0 where
  pub year : date.year ≡ pos same.year
  pub month : date.month ≡ same.month
  pub day : date.day ≡ same.day

pub same-date : (date : Date) (days : ℕ) → days < 2000000 → epoch_day date ≡ days_from_civil (pos 1969) 1 1 +ℤ pos days → SameDate date (date_after days)
same-date date days few e =
    let f = found 8030 1969 days (omega arith) in
    let y = years-before 8030 1969 days in
    let d = date_after days in
    let other : Date = record {
      year = pos d.year;
      month = d.month;
      day = d.day;
      year_in = (omega (arith, signed_arith), omega (arith, signed_arith));
      month_in = f.month_in;
      day_in = f.day_in;
    } in
    let same = epoch_day_injective date other (e ∙ sym f.day_number) in
    record { year = same.0; month = same.1; day = same.2 }

epoch : days_from_civil (pos 1970) 1 1 ≡ pos 0
unfolding days_from_civil
epoch = omega (arith, signed_arith)

-- 1 January 1969 is 365 days before the day that the library counts from
pub start-is : days_from_civil (pos 1969) 1 1 ≡ negsuc 364
start-is = let e = next-year 1969 in omega (arith, signed_arith, epoch)

pub epoch-first : (first : Date) → IsYmd (pos 1969) (pos 1) (pos 1) first → epoch_day first ≡ days_from_civil (pos 1969) 1 1
epoch-first first h =
    let m : first.month ≡ 1 = cc in
    let d : first.day ≡ 1 = cc in
    ap (λ y. days_from_civil y first.month first.day) h.0 ∙ ap (λ n. days_from_civil (pos 1969) n first.day) m ∙ ap (λ n. days_from_civil (pos 1969) 1 n) d

pub added-date : {E : Type 0} (first : Date) (span : Span) (n : ℤ) (days : ℕ) (r : Result Date E) → IsYmd (pos 1969) (pos 1) (pos 1) first → days < 2000000 → n ≡ pos days → IsOnly Day n span → (IsOk r ↔ CanAddToDate first span) → IfOk r (λ d. epoch_day d ≡ date_add first span) → SameDate (result_unwrap_or r first) (date_after days)
added-date first span n days r h few is only can value =
    let start = epoch-first first h in
    let day : IsEpochDay (epoch_day first +ℤ n) = (omega (arith, signed_arith, start-is), omega (arith, signed_arith, start-is)) in
    let e = ok-value (λ d. epoch_day d ≡ date_add first span) r first (can.1 ((can_add-days first n span only).1 day)) value in
    same-date (result_unwrap_or r first) days few (e ∙ date_add-days first n span only ∙ ap (λ z. z +ℤ n) start ∙ ap (λ z. days_from_civil (pos 1969) 1 1 +ℤ z) is)

month-length : (year month : ℕ) → days_in_month (pos year) month ≤ 31
month-length year month =
    let P : ℕ → Type 0 = λ n. n ≤ 31 in
    pick P (month == 2) (cond (is_leap_year year) 29 28) (cond ((month == 4) || (month == 6) || (month == 9) || (month == 11)) 30 31)
    (λ _. pick P (is_leap_year year) 29 28 (λ _. omega arith) (λ _. omega arith))
    (λ _. pick P ((month == 4) || (month == 6) || (month == 9) || (month == 11)) 30 31 (λ _. omega arith) (λ _. omega arith))

pub record Bounded (date : CivilDate) : Type 0 where
  pub year_low : 1969 ≤ date.year
  pub year_high : date.year < 10000
  pub month_low : 1 ≤ date.month
  pub month_high : date.month ≤ 12
  pub day_low : 1 ≤ date.day
  pub day_high : date.day ≤ 31

pub date-bounded : (days : ℕ) → days < 2000000 → Bounded (date_after days)
date-bounded days few =
    let f = found 8030 1969 days (omega arith) in
    let y = years-before 8030 1969 days in
    let l = month-length (date_after days).year (date_after days).month in
    record { year_low = omega arith; year_high = omega arith; month_low = f.month_in.0; month_high = f.month_in.1; day_low = f.day_in.0; day_high = omega (arith, f.day_in.1, l) }

pub dates-same : (y m d : ℕ) (date : CivilDate) → y ≡ date.year → m ≡ date.month → d ≡ date.day → (let one : CivilDate = record { year = y; month = m; day = d } in one) ≡ date
dates-same y m d date a b c =
    let F : ℕ → ℕ → ℕ → CivilDate = λ p q r. record { year = p; month = q; day = r } in
    ap (λ p. F p m d) a ∙ ap (λ q. F date.year q d) b ∙ ap (λ r. F date.year date.month r) c

-- the library has each date of the calendar
pub is-date : (days y m d : ℕ) → days < 2000000 → date_after days ≡ (let one : CivilDate = record { year = y; month = m; day = d } in one) → IsDate (pos y) (pos m) (pos d)
is-date days y m d few e =
    let f = found 8030 1969 days (omega arith) in
    let b = date-bounded days few in
    let P : CivilDate → Type 0 = λ c. (c.year < 10000) × (1 ≤ c.month) × (c.month ≤ 12) × (1 ≤ c.day) × (c.day ≤ days_in_month (pos c.year) c.month) in
    let h = subst P e (b.year_high, b.month_low, b.month_high, b.day_low, f.day_in.1) in
    ((omega (arith, signed_arith), omega (arith, signed_arith, h.0)), (omega (arith, signed_arith, h.1), omega (arith, signed_arith, h.2)), (omega (arith, signed_arith, h.3), not-above d (days_in_month (pos y) m) h.4))
  where
    not-above : (a b : ℕ) → a ≤ b → pos a ≤ℤ pos b
    not-above a b h = omega (arith, signed_arith)

-- the seconds between 1 January 1969 and the date
pub seconds-are : (day first : Date) (nanos seconds : ℤ) (days y m d : ℕ) → days < 2000000 → date_after days ≡ (let one : CivilDate = record { year = y; month = m; day = d } in one) → IsYmd (pos y) (pos m) (pos d) day → IsYmd (pos 1969) (pos 1) (pos 1) first → nanos ≡ (epoch_day day -ℤ epoch_day first) *ℤ pos 86_400_000_000_000 → seconds ≡ int_div nanos (pos 1_000_000_000) → seconds ≡ pos (days * 86400)
seconds-are day first nanos seconds days y m d few e is h n s =
    let f = found 8030 1969 days (omega arith) in
    let P : CivilDate → Type 0 = λ c. days_from_civil (pos c.year) c.month c.day ≡ days_from_civil (pos 1969) 1 1 +ℤ pos days in
    let number : days_from_civil (pos y) m d ≡ days_from_civil (pos 1969) 1 1 +ℤ pos days = subst P e f.day_number in
    let mm : day.month ≡ m = cc in
    let dd : day.day ≡ d = cc in
    let shown : epoch_day day ≡ days_from_civil (pos y) m d = ap (λ q. days_from_civil q day.month day.day) is.0 ∙ ap (λ q. days_from_civil (pos y) q day.day) mm ∙ ap (λ q. days_from_civil (pos y) m q) dd in
    let apart : epoch_day day -ℤ epoch_day first ≡ pos days = difference _ _ _ days (shown ∙ number) (epoch-first first h) in
    s ∙ ap (λ z. int_div z (pos 1_000_000_000)) (n ∙ ap (λ z. z *ℤ pos 86_400_000_000_000) apart) ∙ ap pos (split days)
  where
    difference : (a b c : ℤ) (n : ℕ) → a ≡ c +ℤ pos n → b ≡ c → a -ℤ b ≡ pos n
    difference a b c n e h = omega (arith, signed_arith)

    split : (days : ℕ) → days * 86_400_000_000_000 / 1_000_000_000 ≡ days * 86400
    split days = omega arith

pub from-ok : {T E : Type 0} (P : T → Type 0) (r : Result T E) (x : T) → Some x ≡ result_ok r → IfOk r P → P x
from-ok P (Ok y) x e h = let same : y ≡ x = cc in subst P same h
from-ok P (Err why) x e h = cc

-- a date is so many days after 1 January 1969 for one number of days
pub days-one : (m n : ℕ) → m < 2000000 → n < 2000000 → date_after m ≡ date_after n → m ≡ n
days-one m n hm hn e =
    let f = found 8030 1969 m (omega arith) in
    let g = found 8030 1969 n (omega arith) in
    let D : CivilDate → ℤ = λ c. days_from_civil (pos c.year) c.month c.day in
    same _ m n (sym f.day_number ∙ ap D e ∙ g.day_number)
  where
    same : (z : ℤ) (a b : ℕ) → z +ℤ pos a ≡ z +ℤ pos b → a ≡ b
    same z a b h = omega (arith, signed_arith)
