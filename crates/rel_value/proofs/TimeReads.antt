-- Times as they are read. Other crates may cite these lemmas.
use Rattle.std.proofs.Common.{◌≡◌, ℕ, zero, suc, ◌+◌, ◌-◌, ◌*◌, ◌/◌, ◌%◌, ◌^◌, ◌<◌, ◌≤◌, ◌==◌, ℤ, pos, negsuc, ◌+ℤ◌, ◌-ℤ◌, ◌*ℤ◌, Bool, true, false, ◌||◌, cond, nat_eq, List, [], ◌∷◌, ◌++◌, length, get_or, Option, Some, None, refl, sym, ap, subst, ◌∙◌, ◌⊎◌, inl, inr, arith, unsigned_abs, to_z, of_z, w64, FitsSigned, not}
use Rattle.std.proofs.lemmas.Bool.Decides.{nat_tests}
use Rattle.std.proofs.lemmas.Int.{ints}
use Rattle.std.specs.Cmp.Lexicographic.{pointwise, bytes_decides}
use Rattle.std.specs.Int.{is_negative}
use Rattle.desk_base.specs.Moments.{IsMoment}
use Rattle.line_forms.specs.Numbers.{IsOffset}
use Rattle.rel_value.specs.Calendar.{date_after}
use Rattle.rel_value.proofs.Calendars.{date-bounded}
use Rattle.rel_value.specs.Spellings.{two, weekday, month_name, clock, offset_text, shown_seconds, time_text}
use Rattle.rel_value.specs.declared.time_read.Shown.{Shown}
use Rattle.rel_value.specs.TimesRead.{is_time_text, time_below, time_of}

-- a name of three bytes
record Three (l : List ℕ) : Type 0 where
  a : ℕ
  b : ℕ
  c : ℕ
  is : l ≡ a ∷ b ∷ c ∷ []

three : (a b c : ℕ) → Three (a ∷ b ∷ c ∷ [])
three a b c = record { a = a; b = b; c = c; is = refl }

three-cond : (t : Bool) (x y : List ℕ) → Three x → Three y → Three (cond t x y)
three-cond true x y h k = h
three-cond false x y h k = k

weekday-three : (days : ℕ) → Three (weekday days)
weekday-three days =
    three-cond (days % 7 == 0) _ _ (three 87 101 100) (three-cond (days % 7 == 1) _ _ (three 84 104 117) (three-cond (days % 7 == 2) _ _ (three 70 114 105) (
    three-cond (days % 7 == 3) _ _ (three 83 97 116) (three-cond (days % 7 == 4) _ _ (three 83 117 110) (three-cond (days % 7 == 5) _ _ (three 77 111 110) (three 84 117 101))))))

month-three : (m : ℕ) → Three (month_name m)
month-three m =
    three-cond (m == 1) _ _ (three 74 97 110) (three-cond (m == 2) _ _ (three 70 101 98) (three-cond (m == 3) _ _ (three 77 97 114) (
    three-cond (m == 4) _ _ (three 65 112 114) (three-cond (m == 5) _ _ (three 77 97 121) (three-cond (m == 6) _ _ (three 74 117 110) (
    three-cond (m == 7) _ _ (three 74 117 108) (three-cond (m == 8) _ _ (three 65 117 103) (three-cond (m == 9) _ _ (three 83 101 112) (
    three-cond (m == 10) _ _ (three 79 99 116) (three-cond (m == 11) _ _ (three 78 111 118) (three 68 101 99)))))))))))

-- a time text by its pieces
abbrev spelled : List ℕ → ℕ → List ℕ → ℕ → ℕ → ℤ → List ℕ
spelled w d m y s o =
    w ++ (44 ∷ 32 ∷ []) ++ (two d ++ 32 ∷ (m ++ 32 ∷ (two (y / 100) ++ two (y % 100)))) ++ 32 ∷ clock s ++ 32 ∷ offset_text o

abbrev pub number_at : List ℕ → ℕ → ℕ
number_at text at = 10 * (get_or text at 0 - 48) + (get_or text (at + 1) 0 - 48)

two-back : (n : ℕ) → n < 100 → 10 * ((48 + n / 10) - 48) + ((48 + n % 10) - 48) ≡ n
two-back n small = omega arith

-- what stands at its places
pub record Laid (text : List ℕ) (d mo y s : ℕ) (o : ℤ) : Type 0 where
  pub long : length text ≡ 31
  pub day : number_at text 5 ≡ d
  pub month : month_name mo ≡ get_or text 8 0 ∷ get_or text 9 0 ∷ get_or text 10 0 ∷ []
  pub century : number_at text 12 ≡ y / 100
  pub year : number_at text 14 ≡ y % 100
  pub hour : number_at text 17 ≡ s / 3600
  pub minute : number_at text 20 ≡ s / 60 % 60
  pub second : number_at text 23 ≡ s % 60
  pub sign : get_or text 26 0 ≡ cond (is_negative o) 45 43
  pub offset_hour : number_at text 27 ≡ unsigned_abs o / 60
  pub offset_minute : number_at text 29 ≡ unsigned_abs o % 60

laid-pieces : (w m : List ℕ) → Three w → (tm : Three m) → (d mo y s : ℕ) (o : ℤ) → month_name mo ≡ m → d < 100 → y < 10000 → s < 86400 → unsigned_abs o ≤ 840 → Laid (spelled w d m y s o) d mo y s o
laid-pieces w m tw tm d mo y s o named hd hy hs ho =
    let P : List ℕ → Type 0 = λ l. Laid (spelled l d m y s o) d mo y s o in
    let Q : List ℕ → Type 0 = λ l. (month_name mo ≡ l) → Laid (spelled (tw.a ∷ tw.b ∷ tw.c ∷ []) d l y s o) d mo y s o in
    let at : Q (tm.a ∷ tm.b ∷ tm.c ∷ []) = λ e. record {
      long = refl;
      day = two-back d hd;
      month = e;
      century = two-back (y / 100) (omega arith);
      year = two-back (y % 100) (omega arith);
      hour = two-back (s / 3600) (omega arith);
      minute = two-back (s / 60 % 60) (omega arith);
      second = two-back (s % 60) (omega arith);
      sign = refl;
      offset_hour = two-back (unsigned_abs o / 60) (omega arith);
      offset_minute = two-back (unsigned_abs o % 60) (omega arith);
    } in
    subst P (sym tw.is) (subst Q (sym tm.is) at named)

offset-small : (o : ℤ) → IsOffset o → unsigned_abs o ≤ 840
offset-small (pos n) h = omega (arith, ints, h.1)
offset-small (negsuc n) h = omega (arith, ints, h.0)

-- the seconds that are shown stay below 2,000,000 days
pub shown-is : (moment offset : ℤ) → IsMoment moment → IsOffset offset → pos (shown_seconds moment offset) ≡ (moment +ℤ pos 60 *ℤ offset) +ℤ pos 31536000
shown-is moment offset hm ho = omega (arith, ints, hm.0, ho.0)

pub shown-small : (moment offset : ℤ) → IsMoment moment → IsOffset offset → shown_seconds moment offset < 2000000 * 86400
shown-small moment offset hm ho = let e = shown-is moment offset hm ho in omega (arith, ints, hm.1, ho.1, e)

pub laid : (text : List ℕ) (moment offset : ℤ) → IsMoment moment → IsOffset offset → text ≡ time_text moment offset → (let s = shown_seconds moment offset in let d = date_after (s / 86400) in Laid text d.day d.month d.year (s % 86400) offset)
laid text moment offset hm ho e =
    let s = shown_seconds moment offset in
    let d = date_after (s / 86400) in
    let small = shown-small moment offset hm ho in
    let b = date-bounded (s / 86400) (omega arith) in
    let P : List ℕ → Type 0 = λ l. Laid l d.day d.month d.year (s % 86400) offset in
    subst P (sym e) (laid-pieces (weekday (s / 86400)) (month_name d.month) (weekday-three (s / 86400)) (month-three d.month) d.day d.month d.year (s % 86400) offset refl (omega (arith, b.day_high)) b.year_high (omega arith) (offset-small offset ho))

pub clock-back : (h m n s : ℕ) → s < 86400 → h ≡ s / 3600 → m ≡ s / 60 % 60 → n ≡ s % 60 → 3600 * h + 60 * m + n ≡ s
clock-back h m n s small a b c = omega arith

pub year-back : (c y z : ℕ) → c ≡ y / 100 → z ≡ y % 100 → 100 * c + z ≡ y
year-back c y z a b = omega arith

pub size-back : (h m n : ℕ) → h ≡ n / 60 → m ≡ n % 60 → 60 * h + m ≡ n
size-back h m n a b = omega arith

pub not-negative : (n : ℕ) → is_negative (pos n) ≡ false
not-negative n = grind (arith, nat_tests)

pub minus-back : (size : ℕ) (o : ℤ) → size ≡ unsigned_abs o → size < 200000 → cond {A = ℕ} (is_negative o) 45 43 ≡ 45 → to_z w64 (of_z w64 (pos 0 -ℤ to_z w64 size)) ≡ o
minus-back size (pos n) e small sign = let f = not-negative n in let g = rw f at sign in absurd (omega (arith, g))
minus-back size (negsuc n) e small sign = omega (arith, ints)

pub plus-back : (size : ℕ) (o : ℤ) → size ≡ unsigned_abs o → size < 200000 → (cond {A = ℕ} (is_negative o) 45 43 ≡ 45 → ⊥) → to_z w64 size ≡ o
plus-back size (pos n) e small sign = omega (arith, ints)
plus-back size (negsuc n) e small sign = absurd (sign refl)

-- ---- the definition's search

pub bytes-same : (a b : List ℕ) → a ≡ b → pointwise nat_eq a b ≡ true
bytes-same a b e = (bytes_decides a b).1 e

or-cases : (b c : Bool) → (b || c) ≡ true → (b ≡ true) ⊎ (c ≡ true)
or-cases true c h = inl refl
or-cases false c h = inr h

or-left : (b c : Bool) → b ≡ true → (b || c) ≡ true
or-left true c h = refl
or-left false c h = cc

or-right : (b c : Bool) → c ≡ true → (b || c) ≡ true
or-right true c h = refl
or-right false c h = h

is-time-to : (k m j : ℕ) (text : List ℕ) → j < k → text ≡ time_text (pos m) (pos j -ℤ pos 840) → is_time_text k m text ≡ true
unfolding is_time_text
is-time-to zero m j text below e = absurd (omega arith)
is-time-to (suc k) m j text below e =
    elim (lt_cases j k below) [
      | inl here ↦ or-left _ _ (bytes-same (time_text (pos m) (pos k -ℤ pos 840)) text (ap (λ i. time_text (pos m) (pos i -ℤ pos 840)) (sym here) ∙ sym e))
      | inr less ↦ or-right _ _ (is-time-to k m j text less e)
    ]
  where
    lt_cases : (j k : ℕ) → j < suc k → (j ≡ k) ⊎ (j < k)
    lt_cases j k h = by (j == k) refl
      where
        by : (t : Bool) → (j == k) ≡ t → (j ≡ k) ⊎ (j < k)
        by true e = inl (grind (arith, nat_tests))
        by false e = inr (grind (arith, nat_tests))

is-time-from : (k m : ℕ) (text : List ℕ) → is_time_text k m text ≡ true → (j : ℕ) × (j < k) × (text ≡ time_text (pos m) (pos j -ℤ pos 840))
unfolding is_time_text
is-time-from zero m text h = cc
is-time-from (suc k) m text h =
    elim (or-cases (pointwise nat_eq (time_text (pos m) (pos k -ℤ pos 840)) text) (is_time_text k m text) h) [
      | inl here ↦ (k, omega arith, sym ((bytes_decides (time_text (pos m) (pos k -ℤ pos 840)) text).0 here))
      | inr later ↦ let more = is-time-from k m text later in (more.0, omega (arith, more.1), more.2)
    ]

pick-none : (t : Bool) (n : ℕ) (later : Option ℕ) → (t ≡ true → ⊥) → later ≡ None → cond t (Some n) later ≡ None
pick-none true n later h e = absurd (h refl)
pick-none false n later h e = e

below-none : (n : ℕ) (text : List ℕ) → ((k : ℕ) → k < n → is_time_text 1681 k text ≡ true → ⊥) → time_below n text ≡ None
unfolding time_below
below-none zero text h = refl
below-none (suc n) text h =
    pick-none (is_time_text 1681 n text) n (time_below n text) (λ e. h n (omega arith) e) (below-none n text (λ k below. h k (omega arith)))

pick-some : (t : Bool) (n m : ℕ) (later : Option ℕ) → (t ≡ true → n ≡ m) → (t ≡ false → later ≡ Some m) → cond t (Some n) later ≡ Some m
pick-some true n m later h e = ap Some (h refl)
pick-some false n m later h e = e refl

less-still : (m n : ℕ) → m < suc n → (m ≡ n → ⊥) → m < n
less-still m n h apart = omega arith

below-some : (n m : ℕ) (text : List ℕ) → m < n → is_time_text 1681 m text ≡ true → ((k : ℕ) → k < n → is_time_text 1681 k text ≡ true → k ≡ m) → time_below n text ≡ Some m
unfolding time_below
below-some zero m text below is one = absurd (omega arith)
below-some (suc n) m text below is one =
    pick-some (is_time_text 1681 n text) n m (time_below n text) (λ e. one n (omega arith) e)
    (λ e. below-some n m text (less-still m n below (λ same. (let f : is_time_text 1681 m text ≡ false = ap (λ k. is_time_text 1681 k text) same ∙ e in cc))) is (λ k less. one k (omega arith)))

-- the text is the time text of this moment at some offset
abbrev pub Shows : List ℕ → ℤ → ℤ → Type 0
Shows text moment offset = IsMoment moment × IsOffset offset × (text ≡ time_text moment offset)

offset-at : (j : ℕ) → j < 1681 → IsOffset (pos j -ℤ pos 840)
offset-at j h = (omega (arith, ints), omega (arith, ints))

pub read-none : (text : List ℕ) → ((moment offset : ℤ) → Shows text moment offset → ⊥) → time_of text ≡ None
unfolding time_of
read-none text none = below-none (2 ^ 37 + 1) text (λ k below is.
    let j = is-time-from 1681 k text is in none (pos k) (pos j.0 -ℤ pos 840) ((omega (arith, ints), omega (arith, ints)), offset-at j.0 j.1, j.2))

pub read-some : (text : List ℕ) (moment offset : ℤ) → Shows text moment offset → ((m o : ℤ) → Shows text m o → m ≡ moment) → time_of text ≡ Some (unsigned_abs moment)
unfolding time_of
read-some text moment offset shows one =
    let m = unsigned_abs moment in
    let em : pos m ≡ moment = omega (arith, ints, shows.0.0) in
    let j = unsigned_abs (offset +ℤ pos 840) in
    let ej : pos j -ℤ pos 840 ≡ offset = omega (arith, ints, shows.1.0) in
    below-some (2 ^ 37 + 1) m text (omega (arith, ints, em, shows.0.1)) (is-time-to 1681 m j text (omega (arith, ints, ej, shows.1.1)) (shows.2 ∙ ap (λ z. time_text z offset) (sym em) ∙ ap (time_text (pos m)) (sym ej)))
    (λ k below is.
    let i = is-time-from 1681 k text is in
    let same = one (pos k) (pos i.0 -ℤ pos 840) ((omega (arith, ints), omega (arith, ints)), offset-at i.0 i.1, i.2) in
    omega (arith, ints, same, em))

pub shown-same : (m o n p : ℤ) → m ≡ n → o ≡ p → ◌≡◌ {A = Option Shown} (Some (record { moment = m; offset = o })) (Some (record { moment = n; offset = p }))
shown-same m o n p a b =
    let F : ℤ → ℤ → Option Shown = λ x y. Some (record { moment = x; offset = y }) in
    ap (λ x. F x o) a ∙ ap (λ y. F n y) b

pub bytes-from : (a b : List ℕ) → pointwise nat_eq a b ≡ true → a ≡ b
bytes-from a b h = (bytes_decides a b).0 h

pub not-true : (b : Bool) → not b ≡ true → b ≡ false
not-true true h = cc
not-true false h = refl

pub not-false : (b : Bool) → not b ≡ false → b ≡ true
not-false true h = refl
not-false false h = cc

-- of what is shown, the moment and the offset
pub moment-of : (s : Shown) (m o : ℤ) → ◌≡◌ {A = Option Shown} (Some s) (Some (record { moment = m; offset = o })) → (m ≡ s.moment) × (o ≡ s.offset)
moment-of s m o e =
    let same : s ≡ (let one : Shown = record { moment = m; offset = o } in one) = cc in
    (sym (ap (λ (x : Shown). x.moment) same), sym (ap (λ (x : Shown). x.offset) same))

pub moment-fits : (m : ℤ) → IsMoment m → FitsSigned w64 m
moment-fits (pos n) h = record { sfits = omega (arith, ints, h.1) }
moment-fits (negsuc n) h = absurd (omega (arith, ints, h.0))

pub offset-fits : (o : ℤ) → IsOffset o → FitsSigned w64 o
offset-fits (pos n) h = record { sfits = omega (arith, ints, h.1) }
offset-fits (negsuc n) h = record { sfits = omega (arith, ints, h.0) }

below-from : (n : ℕ) (text : List ℕ) (m : ℕ) → time_below n text ≡ Some m → (m < n) × (is_time_text 1681 m text ≡ true)
unfolding time_below
below-from zero text m h = cc
below-from (suc n) text m h =
    found-cases (is_time_text 1681 n text) n m (time_below n text) refl h (λ e. below-from n text m e)
  where
    found-cases : (t : Bool) (k j : ℕ) (later : Option ℕ) → is_time_text 1681 n text ≡ t → cond t (Some n) later ≡ Some m → (later ≡ Some m → (m < n) × (is_time_text 1681 m text ≡ true)) → (m < suc n) × (is_time_text 1681 m text ≡ true)
    found-cases true k j later e h more =
        let same : n ≡ m = cc in
        (omega arith, ap (λ i. is_time_text 1681 i text) (sym same) ∙ e)
    found-cases false k j later e h more = let r = more h in (omega (arith, r.0), r.1)

pub read-from : (text : List ℕ) (moment : ℕ) → time_of text ≡ Some moment → IsMoment (pos moment) × ((offset : ℤ) × IsOffset offset × (text ≡ time_text (pos moment) offset))
unfolding time_of
read-from text moment h =
    let f = below-from (2 ^ 37 + 1) text moment h in
    let j = is-time-from 1681 moment text f.1 in
    ((omega (arith, ints), omega (arith, ints, f.0)), (pos j.0 -ℤ pos 840, offset-at j.0 j.1, j.2))
