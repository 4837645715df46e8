-- What a row gives is a value that every call takes.
use Rattle.std.proofs.Common.{◌≡◌, ℕ, zero, suc, ◌≤◌, ℤ, pos, negsuc, neg_ℤ, ◌+ℤ◌, ◌-ℤ◌, ◌*ℤ◌, int_div, int_rem, Bool, true, false, List, ◌++◌, length, map, nat_le, cond, ◌&&◌, ◌||◌, ◌∙◌, Option, Some, None, refl, sym, subst, arith}
use Rattle.std.specs.declared.result.Result.{Result}
use Rattle.std.specs.declared.result.Result.TheVariants.{Ok, Err}
use Rattle.std.specs.Prelude.{IfOk, codes, ◌^◌}
use Rattle.std.proofs.lemmas.Bool.{leb-true}
use Rattle.std.proofs.lemmas.Int.{ints}
use Rattle.rel_lexer.specs.declared.operator.BinarySign.{BinarySign}
use Rattle.rel_lexer.specs.declared.operator.BinarySign.TheVariants as sign
use Rattle.rel_value.specs.declared.cast_name.Cast.{Cast}
use Rattle.rel_value.specs.declared.cast_name.Cast.TheVariants as to
use Rattle.rel_value.specs.declared.fault.ValueFault.{ValueFault}
use Rattle.rel_value.specs.declared.fault.ValueFault.TheVariants.{OutOfRange, Absent, TextTooLong}
use Rattle.rel_value.specs.declared.value.Value.{Value}
use Rattle.rel_value.specs.Plain.{Plain, boolean, integer, interval, time, words, PlainKind, booleans, kind_of}
use Rattle.rel_value.specs.Kinds.{Sort, truths, whole_numbers, words_or_parts, instants, spans, number_lists, others, sort_of, order_kind, equality_kind, binary_kind, IsOfKind}
use Rattle.rel_value.proofs.KindLaws.{binary-kinds}
use Rattle.desk_base.specs.Moments.{IsMoment}
use Rattle.rel_value.specs.Views.{shown}
use Rattle.rel_value.specs.Outcomes.{Outcome, gives, fails, no_row, Answers, whole, span, moment, bounded, fits_i64, is_moment}
use Rattle.rel_value.specs.Operands.{Stance, truth, number, bytes, instant, seconds, numbers, stance, IsSound}
use Rattle.rel_value.specs.Signs.{sum, difference, product, quotient, remainder, joined, divided, related, combined, op, negated}
use Rattle.rel_value.specs.Casts.{cast, without_back, without_front, as_integer, as_version, as_boolean, as_text, as_time, integer_read, version_read, boolean_read, time_read, signed_of, same_bytes}
use Rattle.std.specs.Char.{to_ascii_lowercase, to_ascii_uppercase}
use Rattle.rel_value.specs.Texts.{text_of}
use Rattle.rel_value.specs.Versions.{version_of}
use Rattle.rel_value.specs.TimesRead.{time_of}
use Rattle.rel_trace.specs.Works.{HasRow}
use Rattle.rel_value.proofs.TimeReads.{read-from}

-- the value that is given, if one is, is sound
abbrev pub GivesSound : Outcome → Type 0
GivesSound (gives v) = IsSound v
GivesSound (fails why) = Unit {0}
GivesSound no_row = Unit {0}

choice-sound : (t : Bool) (o p : Outcome) → GivesSound o → GivesSound p → GivesSound (cond t o p)
choice-sound true o p h k = h
choice-sound false o p h k = k

tested-sound : (t : Bool) (v : Plain) (fault : ValueFault) → (t ≡ true → IsSound v) → GivesSound (cond t (gives v) (fails fault))
tested-sound true v fault h = h refl
tested-sound false v fault h = tt

whole-sound : (z : ℤ) → GivesSound (whole z)
whole-sound z = tested-sound (fits_i64 z) (integer z) OutOfRange (λ _. tt)

span-sound : (z : ℤ) → GivesSound (span z)
span-sound z = tested-sound (fits_i64 z) (interval z) OutOfRange (λ _. tt)

moment-from : (z : ℤ) → is_moment z ≡ true → IsMoment z
moment-from (pos n) e = let h : n ≤ 2 ^ 37 = leb-true n (2 ^ 37) e in (omega (arith, ints), omega (arith, ints))
moment-from (negsuc n) e = cc

moment-sound : (z : ℤ) → GivesSound (moment z)
moment-sound z = tested-sound (is_moment z) (time z) OutOfRange (moment-from z)

bounded-sound : (t : List ℕ) → GivesSound (bounded t)
bounded-sound t = tested-sound (nat_le (length t) 1048576) (words t) TextTooLong (λ e. let h : length t ≤ 1048576 = leb-true _ _ e in omega arith)

divided-sound : (b : ℤ) (o : Outcome) → GivesSound o → GivesSound (divided b o)
divided-sound (pos zero) o h = tt
divided-sound (pos (suc n)) o h = h
divided-sound (negsuc n) o h = h

sum-sound : (x y : Stance) → GivesSound (sum x y)
sum-sound (number a) (number b) = whole-sound (a +ℤ b)
sum-sound (seconds a) (seconds b) = span-sound (a +ℤ b)
sum-sound (instant a) (seconds b) = moment-sound (a +ℤ b)
sum-sound (seconds a) (instant b) = moment-sound (a +ℤ b)
sum-sound _ _ = tt

difference-sound : (x y : Stance) → GivesSound (difference x y)
difference-sound (number a) (number b) = whole-sound (a -ℤ b)
difference-sound (seconds a) (seconds b) = span-sound (a -ℤ b)
difference-sound (instant a) (seconds b) = moment-sound (a -ℤ b)
difference-sound (instant a) (instant b) = span-sound (a -ℤ b)
difference-sound _ _ = tt

product-sound : (x y : Stance) → GivesSound (product x y)
product-sound (number a) (number b) = whole-sound (a *ℤ b)
product-sound (seconds a) (number b) = span-sound (a *ℤ b)
product-sound (number a) (seconds b) = span-sound (a *ℤ b)
product-sound _ _ = tt

quotient-sound : (x y : Stance) → GivesSound (quotient x y)
quotient-sound (number a) (number b) = divided-sound b (whole (int_div a b)) (whole-sound (int_div a b))
quotient-sound (seconds a) (number b) = divided-sound b (span (int_div a b)) (span-sound (int_div a b))
quotient-sound (seconds a) (seconds b) = divided-sound b (whole (int_div a b)) (whole-sound (int_div a b))
quotient-sound _ _ = tt

remainder-sound : (x y : Stance) → GivesSound (remainder x y)
remainder-sound (number a) (number b) = divided-sound b (whole (int_rem a b)) (whole-sound (int_rem a b))
remainder-sound _ _ = tt

joined-sound : (x y : Stance) → GivesSound (joined x y)
joined-sound (bytes a) (bytes b) = bounded-sound (a ++ b)
joined-sound _ _ = tt

-- there is no kind, or it is that of truths
abbrev IsTruths : Option PlainKind → Type 0
IsTruths None = Unit {0}
IsTruths (Some booleans) = Unit {0}
IsTruths (Some _) = ⊥

truths-only : (k : PlainKind) → IsTruths (Some k) → k ≡ booleans
truths-only booleans h = refl
truths-only _ h = absurd h

truth-sound : (v : Plain) → kind_of v ≡ booleans → IsSound v
truth-sound (boolean b) e = tt
truth-sound _ e = cc

kind-sound : (k : Option PlainKind) (o : Outcome) → IsTruths k → IsOfKind k o → GivesSound o
kind-sound None (gives v) h e = absurd e
kind-sound None (fails why) h e = tt
kind-sound None no_row h e = tt
kind-sound (Some k) (gives v) h e = truth-sound v (e ∙ truths-only k h)
kind-sound (Some k) (fails why) h e = tt
kind-sound (Some k) no_row h e = tt

order-truths : (a b : Sort) → IsTruths (order_kind a b)
order-truths whole_numbers whole_numbers = tt
order-truths words_or_parts words_or_parts = tt
order-truths instants instants = tt
order-truths spans spans = tt
order-truths number_lists number_lists = tt
order-truths number_lists words_or_parts = tt
order-truths words_or_parts number_lists = tt
order-truths _ _ = tt

equality-truths : (a b : Sort) → IsTruths (equality_kind a b)
equality-truths truths truths = tt
equality-truths truths _ = tt
equality-truths whole_numbers b = order-truths whole_numbers b
equality-truths words_or_parts b = order-truths words_or_parts b
equality-truths instants b = order-truths instants b
equality-truths spans b = order-truths spans b
equality-truths number_lists b = order-truths number_lists b
equality-truths others b = order-truths others b

compared-sound : (s : BinarySign) (a b : Plain) → IsTruths (binary_kind s (kind_of a) (kind_of b)) → GivesSound (op s a b)
compared-sound s a b h = kind-sound (binary_kind s (kind_of a) (kind_of b)) (op s a b) h (binary-kinds s a b)

related-sound : (s : BinarySign) (x y : Stance) → GivesSound (related s x y)
related-sound s (bytes a) (bytes b) = tt
related-sound s _ _ = tt

combined-sound : (f : Bool → Bool → Bool) (x y : Stance) → GivesSound (combined f x y)
combined-sound f (truth a) (truth b) = tt
combined-sound f _ _ = tt

pub op-sound : (s : BinarySign) (a b : Plain) → GivesSound (op s a b)
op-sound sign.Plus a b = sum-sound (stance a) (stance b)
op-sound sign.Minus a b = difference-sound (stance a) (stance b)
op-sound sign.Times a b = product-sound (stance a) (stance b)
op-sound sign.Over a b = quotient-sound (stance a) (stance b)
op-sound sign.Mod a b = remainder-sound (stance a) (stance b)
op-sound sign.Join a b = joined-sound (stance a) (stance b)
op-sound sign.Equal a b = compared-sound sign.Equal a b (equality-truths (sort_of (kind_of a)) (sort_of (kind_of b)))
op-sound sign.NotEqual a b = compared-sound sign.NotEqual a b (equality-truths (sort_of (kind_of a)) (sort_of (kind_of b)))
op-sound sign.Is a b = compared-sound sign.Is a b (equality-truths (sort_of (kind_of a)) (sort_of (kind_of b)))
op-sound sign.IsNot a b = compared-sound sign.IsNot a b (equality-truths (sort_of (kind_of a)) (sort_of (kind_of b)))
op-sound sign.Less a b = compared-sound sign.Less a b (order-truths (sort_of (kind_of a)) (sort_of (kind_of b)))
op-sound sign.LessOrEqual a b = compared-sound sign.LessOrEqual a b (order-truths (sort_of (kind_of a)) (sort_of (kind_of b)))
op-sound sign.Greater a b = compared-sound sign.Greater a b (order-truths (sort_of (kind_of a)) (sort_of (kind_of b)))
op-sound sign.GreaterOrEqual a b = compared-sound sign.GreaterOrEqual a b (order-truths (sort_of (kind_of a)) (sort_of (kind_of b)))
op-sound sign.Contains a b = related-sound sign.Contains (stance a) (stance b)
op-sound sign.IsContainedBy a b = related-sound sign.IsContainedBy (stance a) (stance b)
op-sound sign.StartsWith a b = related-sound sign.StartsWith (stance a) (stance b)
op-sound sign.EndsWith a b = related-sound sign.EndsWith (stance a) (stance b)
op-sound sign.DoesNotContain a b = related-sound sign.DoesNotContain (stance a) (stance b)
op-sound sign.IsNotContainedBy a b = related-sound sign.IsNotContainedBy (stance a) (stance b)
op-sound sign.DoesNotStartWith a b = related-sound sign.DoesNotStartWith (stance a) (stance b)
op-sound sign.DoesNotEndWith a b = related-sound sign.DoesNotEndWith (stance a) (stance b)
op-sound sign.And a b = combined-sound (λ x y. x && y) (stance a) (stance b)
op-sound sign.Or a b = combined-sound (λ x y. x || y) (stance a) (stance b)
op-sound sign.Bar a b = tt

pub negated-sound : (x : Stance) → GivesSound (negated x)
negated-sound (number z) = whole-sound (neg_ℤ z)
negated-sound (seconds z) = span-sound (neg_ℤ z)
negated-sound _ = tt

integer-sound : (z : Option ℤ) → GivesSound (integer_read z)
integer-sound None = tt
integer-sound (Some z) = tested-sound (fits_i64 z) (integer z) Absent (λ _. tt)

version-sound : (v : Option (List ℕ)) → GivesSound (version_read v)
version-sound None = tt
version-sound (Some ns) = tt

boolean-sound : (t : List ℕ) → GivesSound (boolean_read t)
boolean-sound t =
    choice-sound (same_bytes t (codes "true")) _ _ tt (choice-sound (same_bytes t (codes "false")) _ _ tt tt)

time-sound : (t : List ℕ) (m : Option ℕ) → time_of t ≡ m → GivesSound (time_read m)
time-sound t None e = tt
time-sound t (Some m) e = (read-from t m e).0

as_text-sound : (f : List ℕ → List ℕ) (x : Stance) → GivesSound (as_text f x)
as_text-sound f (bytes t) = bounded-sound (f t)
as_text-sound f _ = tt

as_integer-sound : (x : Stance) → GivesSound (as_integer x)
as_integer-sound (number z) = tt
as_integer-sound (bytes t) = integer-sound (signed_of t)
as_integer-sound _ = tt

as_version-sound : (x : Stance) → GivesSound (as_version x)
as_version-sound (numbers ns) = tt
as_version-sound (bytes t) = version-sound (version_of t)
as_version-sound _ = tt

as_boolean-sound : (x : Stance) → GivesSound (as_boolean x)
as_boolean-sound (bytes t) = boolean-sound (map to_ascii_lowercase t)
as_boolean-sound _ = tt

as_time-sound : (x : Stance) → GivesSound (as_time x)
as_time-sound (bytes t) = time-sound t (time_of t) refl
as_time-sound _ = tt

pub cast-sound : (c : Cast) (v : Plain) (offset : ℤ) → GivesSound (cast c v offset)
cast-sound to.Str v offset = bounded-sound (text_of offset v)
cast-sound to.Integer v offset = as_integer-sound (stance v)
cast-sound to.Version v offset = as_version-sound (stance v)
cast-sound to.Boolean v offset = as_boolean-sound (stance v)
cast-sound to.Time v offset = as_time-sound (stance v)
cast-sound to.Lowercase v offset = as_text-sound (map to_ascii_lowercase) (stance v)
cast-sound to.Uppercase v offset = as_text-sound (map to_ascii_uppercase) (stance v)
cast-sound to.Trimmed v offset = as_text-sound (λ t. without_back (without_front t)) (stance v)

-- what a call answers for a sound outcome is sound
pub answer-sound : (o : Outcome) (answer : Result Value ValueFault) → HasRow o → GivesSound o → Answers o answer → IfOk answer (λ v. IsSound (shown v))
answer-sound (gives v) (Ok x) r h e = subst IsSound (sym e) h
answer-sound (gives v) (Err f) r h e = tt
answer-sound (fails why) (Ok x) r h e = absurd e
answer-sound (fails why) (Err f) r h e = tt
answer-sound no_row answer r h e = absurd r
