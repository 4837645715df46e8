-- The fields of the lines of the rules: each is that of one value.
use Rattle.std.proofs.Common.{ℕ, zero, suc, ◌≡◌, ◌+◌, ◌%◌, ◌^◌, ◌<◌, ◌≤◌, ℤ, pos, negsuc, List, [], ◌∷◌, length, get_or, refl, sym, ap, subst, ◌∙◌, arith, Option, Some, None, All, map, true, false}
use Rattle.std.specs.Prelude.{codes, decimal, IfSome, Bool}
use Rattle.std.specs.Fmt.{signed_decimal}
use Rattle.std.proofs.lemmas.Int.{ints}
use Rattle.std.proofs.lemmas.List.Elements.{All-nil, All-cons, All-append, All-head}
use Rattle.std.proofs.lemmas.Fmt.{decimal_by_steps, decimal_injective}
use Rattle.desk_base.specs.Moments.{IsMoment}
use Rattle.line_forms.specs.FieldLists.{line_of}
use Rattle.line_forms.specs.Readers.{Spells}
use Rattle.line_forms.proofs.Passing.{cons_head, cons_tail}
use Rattle.line_forms.proofs.PlainLemmas.{IsPlain, moment_one, plain_by}
use Rattle.act_rules.specs.declared.rule.Hours.{Hours}
use Rattle.act_rules.specs.declared.rule.Reapply.{Reapply}
use Rattle.act_rules.specs.declared.rule.Reapply.TheVariants.{Never, Again, While}
use Rattle.fix_site.specs.RuleLines.{IsHours, IsCount, IsWait, IsReapply, moment_field, hours_fields, day_digit, reapply_fields}
use Rattle.fix_site.specs.Readings.{IsMaybeMoment, counted_fields}
use Rattle.line_forms.proofs.FieldReading.{fields_one}
use Rattle.fix_site.proofs.FieldLemmas.{plain_counted, both_one, hours_plain}

-- no byte of a number is above 57, the digit 9
low_decimal : (n : ℕ) → n < 2 ^ 64 → All (λ byte. byte ≤ 57) (decimal n)
low_decimal n h =
    let P : ℕ → List ℕ → Type 0 = λ n ds. All (λ byte. byte ≤ 57) ds in
    decimal_by_steps P
    (λ n small. All-cons (λ byte. byte ≤ 57) (48 + n) [] (omega arith) (All-nil (λ byte. byte ≤ 57)))
    (λ n ds large front. All-append (λ byte. byte ≤ 57) ds ((48 + n % 10) ∷ []) front (All-cons (λ byte. byte ≤ 57) (48 + n % 10) [] (omega arith) (All-nil (λ byte. byte ≤ 57))))
    n h

not_low : (text : List ℕ) → All (λ byte. byte ≤ 57) text → codes "none" ≡ text → ⊥
not_low text low e =
    let P : List ℕ → Type 0 = All (λ byte. byte ≤ 57) in
    let first = All-head (λ byte. byte ≤ 57) 110 (codes "one") (subst P (sym e) low) in
    omega (arith, first)

-- `none` is no moment
none_not_moment : (moment : ℤ) → IsMoment moment → codes "none" ≡ signed_decimal moment → ⊥
none_not_moment (pos n) is e = not_low (decimal n) (low_decimal n (omega (arith, ints, is.1))) e
none_not_moment (negsuc n) is e = omega (arith, ints, is.0)

pub moment_same : (v w : Option ℤ) → IsMaybeMoment v → IsMaybeMoment w → moment_field v ≡ moment_field w → v ≡ w
moment_same None None is fine e = refl
moment_same None (Some t) is fine e = absurd (none_not_moment t fine e)
moment_same (Some t) None is fine e = absurd (none_not_moment t is (sym e))
moment_same (Some t) (Some u) is fine e = ap Some (moment_one t u is fine e)

-- hours
pub hours_one_plain : (hours : Option Hours) → IfSome hours IsHours → All IsPlain (hours_fields hours)
hours_one_plain None is = All-cons IsPlain (codes "none") [] (plain_by (codes "none") refl) (All-nil IsPlain)
hours_one_plain (Some hours) is = hours_plain hours is

hours_some : (hours : Option Hours) → 0 < length (hours_fields hours)
hours_some None = omega arith
hours_some (Some hours) = omega arith

minutes_same : (v w : Hours) → IsHours v → IsHours w → decimal v.from ∷ decimal v.to ∷ [] ≡ decimal w.from ∷ decimal w.to ∷ [] → v ≡ w
minutes_same v w is fine e =
    let from : v.from ≡ w.from = decimal_injective v.from w.from (omega (arith, is.from)) (omega (arith, fine.from)) (cons_head _ _ _ _ e) in
    let to : v.to ≡ w.to = decimal_injective v.to w.to (omega (arith, is.to.1)) (omega (arith, fine.to.1)) (cons_head _ _ _ _ (cons_tail _ _ _ _ e)) in
    ap (λ (n : ℕ). let h : Hours = record { from = n; to = v.to } in h) from ∙ ap (λ (n : ℕ). let h : Hours = record { from = w.from; to = n } in h) to

hours_fields_same : (v w : Option Hours) → IfSome v IsHours → IfSome w IsHours → hours_fields v ≡ hours_fields w → v ≡ w
hours_fields_same None None is fine e = refl
hours_fields_same None (Some w) is fine e = cc
hours_fields_same (Some v) None is fine e = cc
hours_fields_same (Some v) (Some w) is fine e = ap Some (minutes_same v w is fine e)

pub hours_same : (v w : Option Hours) → IfSome v IsHours → IfSome w IsHours → line_of (hours_fields v) ≡ line_of (hours_fields w) → v ≡ w
hours_same v w is fine e =
    hours_fields_same v w is fine (fields_one (hours_fields v) (hours_fields w) (hours_some v) (hours_some w) (hours_one_plain v is) (hours_one_plain w fine) e)

-- days
day_same : (a b : Bool) → day_digit a ≡ day_digit b → a ≡ b
day_same true true e = refl
day_same true false e = absurd (omega arith)
day_same false true e = absurd (omega arith)
day_same false false e = refl

pub days_same : (v w : List Bool) → map day_digit v ≡ map day_digit w → v ≡ w
days_same [] [] e = refl
days_same [] (b ∷ w) e = cc
days_same (a ∷ v) [] e = cc
days_same (a ∷ v) (b ∷ w) e =
    ap (λ (x : Bool). x ∷ v) (day_same a b (cons_head (day_digit a) (day_digit b) (map day_digit v) (map day_digit w) e))
    ∙ ap (λ (l : List Bool). b ∷ l) (days_same v w (cons_tail (day_digit a) (day_digit b) (map day_digit v) (map day_digit w) e))

-- seven digits, each of which is that of a day
seven_bytes : (text : List ℕ) → length text ≡ 7 → text ≡ get_or text 0 0 ∷ get_or text 1 0 ∷ get_or text 2 0 ∷ get_or text 3 0 ∷ get_or text 4 0 ∷ get_or text 5 0 ∷ get_or text 6 0 ∷ []
seven_bytes [] h = absurd (omega (arith, h))
seven_bytes (a ∷ []) h = absurd (omega (arith, h))
seven_bytes (a ∷ b ∷ []) h = absurd (omega (arith, h))
seven_bytes (a ∷ b ∷ c ∷ []) h = absurd (omega (arith, h))
seven_bytes (a ∷ b ∷ c ∷ d ∷ []) h = absurd (omega (arith, h))
seven_bytes (a ∷ b ∷ c ∷ d ∷ e ∷ []) h = absurd (omega (arith, h))
seven_bytes (a ∷ b ∷ c ∷ d ∷ e ∷ f ∷ []) h = absurd (omega (arith, h))
seven_bytes (a ∷ b ∷ c ∷ d ∷ e ∷ f ∷ g ∷ []) h = refl
seven_bytes (a ∷ b ∷ c ∷ d ∷ e ∷ f ∷ g ∷ i ∷ more) h = absurd (omega (arith, h))

pub seven_text : (text : List ℕ) (a b c d e f g : Bool) → length text ≡ 7 → get_or text 0 0 ≡ day_digit a → get_or text 1 0 ≡ day_digit b → get_or text 2 0 ≡ day_digit c → get_or text 3 0 ≡ day_digit d →
    get_or text 4 0 ≡ day_digit e → get_or text 5 0 ≡ day_digit f → get_or text 6 0 ≡ day_digit g → text ≡ map day_digit (a ∷ b ∷ c ∷ d ∷ e ∷ f ∷ g ∷ [])
seven_text text a b c d e f g seven h0 h1 h2 h3 h4 h5 h6 = let bytes = seven_bytes text seven in cc

digit_at : (days : List Bool) (i : ℕ) → i < length days → (day : Bool) × (get_or (map day_digit days) i 0 ≡ day_digit day)
digit_at [] i h = absurd (omega arith)
digit_at (a ∷ days) zero h = (a, refl)
digit_at (a ∷ days) (suc i) h = digit_at days i (omega arith)

-- a byte is the digit of no day, and so the text is that of no days
pub wrong_day : (text : List ℕ) (i : ℕ) (result : Option (List Bool)) → i < 7 → result ≡ None → ((day : Bool) → get_or text i 0 ≡ day_digit day → ⊥) → Spells (λ days. length days ≡ 7) (map day_digit) text result
wrong_day text i result within is none =
    let P : Option (List Bool) → Type 0 = λ o. Spells (λ days. length days ≡ 7) (map day_digit) text o in
    subst P (sym is) (λ days seven e.
    let at = digit_at days i (omega (arith, seven)) in
    none at.0 (ap (λ (l : List ℕ). get_or l i 0) e ∙ at.1))

-- reapplications
worded_plain : (word : List ℕ) (count : ℕ) (wait : ℤ) → IsPlain word → IsCount count → IsWait wait → All IsPlain (word ∷ counted_fields count wait)
worded_plain word count wait is h k = All-cons IsPlain word (counted_fields count wait) is (plain_counted count wait h k)

pub reapply_plain : (reapply : Reapply) → IsReapply reapply → All IsPlain (reapply_fields reapply)
reapply_plain Never is = All-cons IsPlain (codes "never") [] (plain_by (codes "never") refl) (All-nil IsPlain)
reapply_plain (Again limit wait) is = worded_plain (codes "again") limit wait (plain_by (codes "again") refl) is.0 is.1
reapply_plain (While limit wait) is = worded_plain (codes "while") limit wait (plain_by (codes "while") refl) is.0 is.1

reapply_some : (reapply : Reapply) → 0 < length (reapply_fields reapply)
reapply_some Never = omega arith
reapply_some (Again limit wait) = omega arith
reapply_some (While limit wait) = omega arith

again_not_while : (a b : ℕ) (t u : ℤ) → reapply_fields (Again a t) ≡ reapply_fields (While b u) → ⊥
again_not_while a b t u e =
    let same : codes "again" ≡ codes "while" = cons_head (codes "again") (codes "while") (counted_fields a t) (counted_fields b u) e in
    let first : 97 ≡ 119 = ap (λ (l : List ℕ). get_or l 0 0) same in
    omega (arith, first)

reapply_fields_same : (v w : Reapply) → IsReapply v → IsReapply w → reapply_fields v ≡ reapply_fields w → v ≡ w
reapply_fields_same Never Never is fine e = refl
reapply_fields_same Never (Again b u) is fine e = cc
reapply_fields_same Never (While b u) is fine e = cc
reapply_fields_same (Again a t) Never is fine e = cc
reapply_fields_same (Again a t) (Again b u) is fine e =
    let same = both_one a b t u is.0 fine.0 is.1 fine.1 (cons_tail (codes "again") (codes "again") (counted_fields a t) (counted_fields b u) e) in
    ap (λ (n : ℕ). let r : Reapply = Again n t in r) same.0 ∙ ap (λ (z : ℤ). let r : Reapply = Again b z in r) same.1
reapply_fields_same (Again a t) (While b u) is fine e = absurd (again_not_while a b t u e)
reapply_fields_same (While a t) Never is fine e = cc
reapply_fields_same (While a t) (Again b u) is fine e = absurd (again_not_while b a u t (sym e))
reapply_fields_same (While a t) (While b u) is fine e =
    let same = both_one a b t u is.0 fine.0 is.1 fine.1 (cons_tail (codes "while") (codes "while") (counted_fields a t) (counted_fields b u) e) in
    ap (λ (n : ℕ). let r : Reapply = While n t in r) same.0 ∙ ap (λ (z : ℤ). let r : Reapply = While b z in r) same.1

pub reapply_same : (v w : Reapply) → IsReapply v → IsReapply w → line_of (reapply_fields v) ≡ line_of (reapply_fields w) → v ≡ w
reapply_same v w is fine e =
    reapply_fields_same v w is fine (fields_one (reapply_fields v) (reapply_fields w) (reapply_some v) (reapply_some w) (reapply_plain v is) (reapply_plain w fine) e)
