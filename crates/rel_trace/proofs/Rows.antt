-- Where there is a row, its answer is that of the outcome, and where there is none there is no outcome.
use Rattle.std.proofs.Common.{◌≡◌, ℕ, ℤ, neg_ℤ, Bool, true, false, cond, map, List, Option, Some, None, refl, sym, subst}
use Rattle.std.specs.Prelude.{is_some, IfOk, codes}
use Rattle.std.specs.declared.result.Result.{Result}
use Rattle.rel_lexer.specs.declared.operator.BinarySign.{BinarySign}
use Rattle.rel_value.specs.declared.cast_name.Cast.{Cast}
use Rattle.rel_value.specs.declared.cast_name.Cast.TheVariants as to
use Rattle.rel_value.specs.declared.fault.ValueFault.{ValueFault}
use Rattle.rel_value.specs.declared.fault.ValueFault.TheVariants.{Absent}
use Rattle.rel_value.specs.declared.value.Value.{Value}
use Rattle.rel_value.specs.Plain.{Plain, boolean, integer, words, part, interval, version, PlainKind, kind_of}
use Rattle.rel_value.specs.Views.{shown}
use Rattle.rel_value.specs.Kinds.{IsOfKind, binary_kind, cast_kind, negated_kind, sort_of}
use Rattle.rel_value.specs.Operands.{IsSound, stance, stretch}
use Rattle.rel_value.specs.Outcomes.{Outcome, gives, fails, no_row, fits_i64, Answers}
use Rattle.rel_value.specs.Signs.{op, negated}
use Rattle.rel_value.specs.Casts.{cast, integer_read, version_read, boolean_read, time_read, signed_of, same_bytes}
use Rattle.std.specs.Char.{to_ascii_lowercase}
use Rattle.rel_value.specs.Versions.{version_of}
use Rattle.rel_value.specs.TimesRead.{time_of}
use Rattle.rel_value.proofs.KindLaws.{binary-kinds}
use Rattle.rel_trace.specs.declared.worked.Worked.{Worked}
use Rattle.rel_trace.specs.declared.worked.Worked.TheVariants.{Without}
use Rattle.rel_trace.specs.Works.{HasRow, Works}
use Rattle.rel_trace.proofs.SoundRows.{answer-sound, op-sound, negated-sound, cast-sound}

row-there : (k : Option PlainKind) (o : Outcome) → is_some k ≡ true → IsOfKind k o → HasRow o
row-there None o e h = cc
row-there (Some k) (gives v) e h = tt
row-there (Some k) (fails why) e h = tt
row-there (Some k) no_row e h = absurd h

row-missing : (k : Option PlainKind) (o : Outcome) → is_some k ≡ false → IsOfKind k o → o ≡ no_row
row-missing None (gives v) e h = absurd h
row-missing None (fails why) e h = absurd h
row-missing None no_row e h = refl
row-missing (Some k) o e h = cc

without-row : (o : Outcome) → o ≡ no_row → Works o Without
without-row o e = subst (λ (x : Outcome). Works x Without) (sym e) tt

-- what `Worked::of` says of its answer
abbrev pub Converts : Result Value ValueFault → Worked → Type 0
Converts answer w = (o : Outcome) → HasRow o → Answers o answer → Works o w

-- ---- signs

pub op-there : (s : BinarySign) (a b : Plain) → is_some (binary_kind s (kind_of a) (kind_of b)) ≡ true → HasRow (op s a b)
op-there s a b e = row-there _ (op s a b) e (binary-kinds s a b)

pub op-answer : (s : BinarySign) (a b : Plain) (answer : Result Value ValueFault) → is_some (binary_kind s (kind_of a) (kind_of b)) ≡ true → Answers (op s a b) answer → IfOk answer (λ v. IsSound (shown v))
op-answer s a b answer e h = answer-sound (op s a b) answer (op-there s a b e) (op-sound s a b) h

pub op-works : (s : BinarySign) (x y a b : Plain) (answer : Result Value ValueFault) (w : Worked) → x ≡ a → y ≡ b → is_some (binary_kind s (kind_of x) (kind_of y)) ≡ true → Answers (op s x y) answer → Converts answer w → Works (op s a b) w
op-works s x y a b answer w e f r h c =
    subst (λ (z : Plain). Works (op s z b) w) e (subst (λ (z : Plain). Works (op s x z) w) f (c (op s x y) (op-there s x y r) h))

pub op-without : (s : BinarySign) (x y a b : Plain) → x ≡ a → y ≡ b → is_some (binary_kind s (kind_of x) (kind_of y)) ≡ false → Works (op s a b) Without
op-without s x y a b e f r =
    subst (λ (z : Plain). Works (op s z b) Without) e (subst (λ (z : Plain). Works (op s x z) Without) f (without-row (op s x y) (row-missing _ (op s x y) r (binary-kinds s x y))))

tested-row : (t : Bool) (v : Plain) (fault : ValueFault) → HasRow (cond t (gives v) (fails fault))
tested-row true v fault = tt
tested-row false v fault = tt

-- ---- `-` before a value

pub negated-there : (a : Plain) → is_some (negated_kind (sort_of (kind_of a))) ≡ true → HasRow (negated (stance a))
negated-there (integer z) e = tested-row (fits_i64 (neg_ℤ z)) _ _
negated-there (interval z) e = tested-row (fits_i64 (neg_ℤ z)) _ _
negated-there _ e = cc

negated-missing : (a : Plain) → is_some (negated_kind (sort_of (kind_of a))) ≡ false → negated (stance a) ≡ no_row
negated-missing (integer z) e = cc
negated-missing (interval z) e = cc
negated-missing _ e = refl

pub negated-answer : (a : Plain) (answer : Result Value ValueFault) → is_some (negated_kind (sort_of (kind_of a))) ≡ true → Answers (negated (stance a)) answer → IfOk answer (λ v. IsSound (shown v))
negated-answer a answer e h = answer-sound (negated (stance a)) answer (negated-there a e) (negated-sound (stance a)) h

pub negated-works : (x a : Plain) (answer : Result Value ValueFault) (w : Worked) → x ≡ a → is_some (negated_kind (sort_of (kind_of x))) ≡ true → Answers (negated (stance x)) answer → Converts answer w → Works (negated (stance a)) w
negated-works x a answer w e r h c = subst (λ (z : Plain). Works (negated (stance z)) w) e (c (negated (stance x)) (negated-there x r) h)

pub negated-without : (x a : Plain) → x ≡ a → is_some (negated_kind (sort_of (kind_of x))) ≡ false → Works (negated (stance a)) Without
negated-without x a e r = subst (λ (z : Plain). Works (negated (stance z)) Without) e (without-row (negated (stance x)) (negated-missing x r))

-- ---- casts

integer-row : (z : Option ℤ) → HasRow (integer_read z)
integer-row None = tt
integer-row (Some z) = tested-row (fits_i64 z) _ _

version-row : (v : Option (List ℕ)) → HasRow (version_read v)
version-row None = tt
version-row (Some ns) = tt

boolean-row : (t : List ℕ) → HasRow (boolean_read t)
boolean-row t = nested (same_bytes t (codes "true")) (same_bytes t (codes "false"))
  where
    nested : (p q : Bool) → HasRow (cond p (gives (boolean true)) (cond q (gives (boolean false)) (fails Absent)))
    nested true q = tt
    nested false true = tt
    nested false false = tt

time-row : (m : Option ℕ) → HasRow (time_read m)
time-row None = tt
time-row (Some m) = tt

pub cast-there : (c : Cast) (v : Plain) (offset : ℤ) → is_some (cast_kind c (kind_of v)) ≡ true → HasRow (cast c v offset)
cast-there to.Str v offset e = tested-row _ _ _
cast-there to.Integer (integer z) offset e = tt
cast-there to.Integer (words t) offset e = integer-row (signed_of t)
cast-there to.Integer (part w f g) offset e = integer-row (signed_of (stretch w f g))
cast-there to.Integer _ offset e = cc
cast-there to.Version (version ns) offset e = tt
cast-there to.Version (words t) offset e = version-row (version_of t)
cast-there to.Version (part w f g) offset e = version-row (version_of (stretch w f g))
cast-there to.Version _ offset e = cc
cast-there to.Boolean (words t) offset e = boolean-row (map to_ascii_lowercase t)
cast-there to.Boolean (part w f g) offset e = boolean-row (map to_ascii_lowercase (stretch w f g))
cast-there to.Boolean _ offset e = cc
cast-there to.Time (words t) offset e = time-row (time_of t)
cast-there to.Time (part w f g) offset e = time-row (time_of (stretch w f g))
cast-there to.Time _ offset e = cc
cast-there to.Lowercase (words t) offset e = tested-row _ _ _
cast-there to.Lowercase (part w f g) offset e = tested-row _ _ _
cast-there to.Lowercase _ offset e = cc
cast-there to.Uppercase (words t) offset e = tested-row _ _ _
cast-there to.Uppercase (part w f g) offset e = tested-row _ _ _
cast-there to.Uppercase _ offset e = cc
cast-there to.Trimmed (words t) offset e = tested-row _ _ _
cast-there to.Trimmed (part w f g) offset e = tested-row _ _ _
cast-there to.Trimmed _ offset e = cc

cast-missing : (c : Cast) (v : Plain) (offset : ℤ) → is_some (cast_kind c (kind_of v)) ≡ false → cast c v offset ≡ no_row
cast-missing to.Str v offset e = cc
cast-missing to.Integer (integer z) offset e = cc
cast-missing to.Integer (words t) offset e = cc
cast-missing to.Integer (part w f g) offset e = cc
cast-missing to.Integer _ offset e = refl
cast-missing to.Version (version ns) offset e = cc
cast-missing to.Version (words t) offset e = cc
cast-missing to.Version (part w f g) offset e = cc
cast-missing to.Version _ offset e = refl
cast-missing to.Boolean (words t) offset e = cc
cast-missing to.Boolean (part w f g) offset e = cc
cast-missing to.Boolean _ offset e = refl
cast-missing to.Time (words t) offset e = cc
cast-missing to.Time (part w f g) offset e = cc
cast-missing to.Time _ offset e = refl
cast-missing to.Lowercase (words t) offset e = cc
cast-missing to.Lowercase (part w f g) offset e = cc
cast-missing to.Lowercase _ offset e = refl
cast-missing to.Uppercase (words t) offset e = cc
cast-missing to.Uppercase (part w f g) offset e = cc
cast-missing to.Uppercase _ offset e = refl
cast-missing to.Trimmed (words t) offset e = cc
cast-missing to.Trimmed (part w f g) offset e = cc
cast-missing to.Trimmed _ offset e = refl

pub cast-answer : (c : Cast) (a : Plain) (offset : ℤ) (answer : Result Value ValueFault) → is_some (cast_kind c (kind_of a)) ≡ true → Answers (cast c a offset) answer → IfOk answer (λ v. IsSound (shown v))
cast-answer c a offset answer e h = answer-sound (cast c a offset) answer (cast-there c a offset e) (cast-sound c a offset) h

pub cast-works : (c : Cast) (x a : Plain) (offset : ℤ) (answer : Result Value ValueFault) (w : Worked) → x ≡ a → is_some (cast_kind c (kind_of x)) ≡ true → Answers (cast c x offset) answer → Converts answer w → Works (cast c a offset) w
cast-works k x a offset answer w e r h c = subst (λ (z : Plain). Works (cast k z offset) w) e (c (cast k x offset) (cast-there k x offset r) h)

pub cast-without : (c : Cast) (x a : Plain) (offset : ℤ) → x ≡ a → is_some (cast_kind c (kind_of x)) ≡ false → Works (cast c a offset) Without
cast-without k x a offset e r = subst (λ (z : Plain). Works (cast k z offset) Without) e (without-row (cast k x offset) (cast-missing k x offset r))
