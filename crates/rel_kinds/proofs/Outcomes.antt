-- What rows and their results keep.
use Rattle.std.proofs.Common.{◌≡◌, ℤ, Bool, true, false, Option, Some, None, refl, subst}
use Rattle.rel_lexer.specs.declared.place.Place.{Place}
use Rattle.rel_lexer.specs.declared.operator.BinarySign.{BinarySign}
use Rattle.rel_lexer.specs.declared.operator.BinarySign.TheVariants as sign
use Rattle.rel_lexer.specs.declared.operator.UnarySign.TheVariants as one_operand
use Rattle.std.specs.Prelude.{List, length, map, nat_le, neg_ℤ, if◌then◌else◌}
use Rattle.std.specs.Char.{to_ascii_lowercase, to_ascii_uppercase}
use Rattle.std.specs.Prelude.{ℕ, codes}
use Rattle.rel_value.specs.declared.fault.ValueFault.{ValueFault}
use Rattle.rel_value.specs.declared.fault.ValueFault.TheVariants.{Absent, TextTooLong, OutOfRange}
use Rattle.rel_value.specs.declared.cast_name.Cast.{Cast}
use Rattle.rel_value.specs.declared.cast_name.Cast.TheVariants as to
use Rattle.rel_value.specs.Casts.{cast, as_text, integer_read, version_read, boolean_read, time_read, same_bytes, signed_of, without_back, without_front}
use Rattle.rel_value.specs.Kinds.{Sort, words_or_parts, sort_of, text_kind, cast_kind, binary_kind, joined_kind, IsOfKind}
use Rattle.rel_value.specs.Operands.{stance, stretch}
use Rattle.rel_value.specs.Outcomes.{Outcome, gives, fails, no_row, fits_i64, bounded}
use Rattle.rel_value.specs.Plain.{Plain, boolean, integer, words, part, interval, version, PlainKind, booleans, integers, texts, times, intervals, versions, kind_of}
use Rattle.rel_value.specs.Signs.{op, negated}
use Rattle.rel_value.specs.Texts.{text_of}
use Rattle.rel_value.specs.TimesRead.{time_of}
use Rattle.rel_value.specs.Versions.{version_of}
use Rattle.rel_value.proofs.KindLaws.{binary-kinds}
use Rattle.rel_types.specs.Signs.{unary_kind}
use Rattle.rel_trace.specs.Ones.{inverted}
use Rattle.rel_trace.specs.Trace.{result_at}
use Rattle.rel_kinds.specs.Giving.{GivesKind, GivesOne}

-- ---- a row's result as a trace

pub result-kind : (k : PlainKind) (p : Place) (o : Outcome) → IsOfKind (Some k) o → GivesKind k (result_at p o)
result-kind k p (gives v) h = (h, tt)
result-kind k p (fails why) h = tt
result-kind k p no_row h = tt

pub result-one : (k : PlainKind) (p : Place) (o : Outcome) → IsOfKind (Some k) o → GivesOne (result_at p o)
result-one k p (gives v) h = refl
result-one k p (fails why) h = tt
result-one k p no_row h = h

-- ---- signs

-- a sign of which the kinds of the operands are known
pub op-kind : (s : BinarySign) (x y : Plain) (a b k : PlainKind) → kind_of x ≡ a → kind_of y ≡ b → binary_kind s a b ≡ Some k → IsOfKind (Some k) (op s x y)
op-kind s x y a b k ex ey e =
    let P : Option PlainKind → Type 0 = λ j. IsOfKind j (op s x y) in
    subst P e (subst (λ i. P (binary_kind s a i)) ey (subst (λ i. P (binary_kind s i (kind_of y))) ex (binary-kinds s x y)))

truth-kind : (v : Plain) → IsOfKind (unary_kind one_operand.Not (kind_of v)) (inverted v)
truth-kind (boolean b) = refl
truth-kind _ = tt

either-kind : (kind : PlainKind) (v : Plain) (fault : ValueFault) (t : Bool) → kind_of v ≡ kind → IsOfKind (Some kind) (if t then gives v else fails fault)
either-kind kind v fault true h = h
either-kind kind v fault false h = tt

minus-kind : (v : Plain) → IsOfKind (unary_kind one_operand.Minus (kind_of v)) (negated (stance v))
minus-kind (integer z) = either-kind integers (integer (neg_ℤ z)) OutOfRange (fits_i64 (neg_ℤ z)) refl
minus-kind (interval z) = either-kind intervals (interval (neg_ℤ z)) OutOfRange (fits_i64 (neg_ℤ z)) refl
minus-kind _ = tt

-- a sign before an operand of a known kind
known : (f : Plain → Outcome) (g : PlainKind → Option PlainKind) → ((v : Plain) → IsOfKind (g (kind_of v)) (f v)) → (v : Plain) (a k : PlainKind) → kind_of v ≡ a → g a ≡ Some k → IsOfKind (Some k) (f v)
known f g h v a k ev e = subst (λ j. IsOfKind j (f v)) e (subst (λ i. IsOfKind (g i) (f v)) ev (h v))

pub not-kind : (v : Plain) (a k : PlainKind) → kind_of v ≡ a → unary_kind one_operand.Not a ≡ Some k → IsOfKind (Some k) (inverted v)
not-kind = known inverted (unary_kind one_operand.Not) truth-kind

pub negated-kind : (v : Plain) (a k : PlainKind) → kind_of v ≡ a → unary_kind one_operand.Minus a ≡ Some k → IsOfKind (Some k) (negated (stance v))
negated-kind = known (λ v. negated (stance v)) (unary_kind one_operand.Minus) minus-kind

-- ---- casts

integer_read-kind : (z : Option ℤ) → IsOfKind (Some integers) (integer_read z)
integer_read-kind None = tt
integer_read-kind (Some z) = either-kind integers (integer z) Absent (fits_i64 z) refl

version_read-kind : (ns : Option (List ℕ)) → IsOfKind (Some versions) (version_read ns)
version_read-kind None = tt
version_read-kind (Some ns) = refl

truth_read-kind : (b c : Bool) → IsOfKind (Some booleans) (if b then gives (boolean true) else (if c then gives (boolean false) else fails Absent))
truth_read-kind true c = refl
truth_read-kind false true = refl
truth_read-kind false false = tt

boolean_read-kind : (t : List ℕ) → IsOfKind (Some booleans) (boolean_read t)
boolean_read-kind t = truth_read-kind (same_bytes t (codes "true")) (same_bytes t (codes "false"))

time_read-kind : (m : Option ℕ) → IsOfKind (Some times) (time_read m)
time_read-kind None = tt
time_read-kind (Some m) = refl

bounded-kind : (t : List ℕ) → IsOfKind (Some texts) (bounded t)
bounded-kind t = either-kind texts (words t) TextTooLong (nat_le (length t) 1048576) refl

text-kind : (change : List ℕ → List ℕ) (v : Plain) → IsOfKind (text_kind texts (sort_of (kind_of v))) (as_text change (stance v))
text-kind change (words t) = bounded-kind (change t)
text-kind change (part w from to) = bounded-kind (change (stretch w from to))
text-kind change _ = tt

any_cast-kind : (c : Cast) (offset : ℤ) (v : Plain) → IsOfKind (cast_kind c (kind_of v)) (cast c v offset)
any_cast-kind to.Str offset v = bounded-kind (text_of offset v)
any_cast-kind to.Integer offset (integer z) = refl
any_cast-kind to.Integer offset (words t) = integer_read-kind (signed_of t)
any_cast-kind to.Integer offset (part w from to) = integer_read-kind (signed_of (stretch w from to))
any_cast-kind to.Integer offset _ = tt
any_cast-kind to.Version offset (version ns) = refl
any_cast-kind to.Version offset (words t) = version_read-kind (version_of t)
any_cast-kind to.Version offset (part w from to) = version_read-kind (version_of (stretch w from to))
any_cast-kind to.Version offset _ = tt
any_cast-kind to.Boolean offset (words t) = boolean_read-kind (map to_ascii_lowercase t)
any_cast-kind to.Boolean offset (part w from to) = boolean_read-kind (map to_ascii_lowercase (stretch w from to))
any_cast-kind to.Boolean offset _ = tt
any_cast-kind to.Time offset (words t) = time_read-kind (time_of t)
any_cast-kind to.Time offset (part w from to) = time_read-kind (time_of (stretch w from to))
any_cast-kind to.Time offset _ = tt
any_cast-kind to.Lowercase offset v = text-kind (map to_ascii_lowercase) v
any_cast-kind to.Uppercase offset v = text-kind (map to_ascii_uppercase) v
any_cast-kind to.Trimmed offset v = text-kind (λ t. without_back (without_front t)) v

pub cast-kind : (c : Cast) (offset : ℤ) (v : Plain) (a k : PlainKind) → kind_of v ≡ a → cast_kind c a ≡ Some k → IsOfKind (Some k) (cast c v offset)
cast-kind c offset = known (λ v. cast c v offset) (cast_kind c) (any_cast-kind c offset)

-- ---- what may be no row

-- a value has this kind, if there is one
abbrev pub GivesAtMost : PlainKind → Outcome → Type 0
GivesAtMost k (gives v) = kind_of v ≡ k
GivesAtMost k _ = Unit {0}

pub at_most : (k : PlainKind) (o : Outcome) → IsOfKind (Some k) o → GivesAtMost k o
at_most k (gives v) h = h
at_most k (fails why) h = tt
at_most k no_row h = tt

joined-sorts : (a b : Sort) (o : Outcome) → IsOfKind (joined_kind a b) o → GivesAtMost texts o
joined-sorts words_or_parts words_or_parts o h = at_most texts o h
joined-sorts _ _ (gives v) h = absurd h
joined-sorts _ _ (fails why) h = tt
joined-sorts _ _ no_row h = tt

-- `&` gives texts alone
pub join-kind : (x y : Plain) → GivesAtMost texts (op sign.Join x y)
join-kind x y = joined-sorts (sort_of (kind_of x)) (sort_of (kind_of y)) (op sign.Join x y) (binary-kinds sign.Join x y)

pub at_most-result : (k : PlainKind) (p : Place) (o : Outcome) → GivesAtMost k o → GivesKind k (result_at p o)
at_most-result k p (gives v) h = (h, tt)
at_most-result k p (fails why) h = tt
at_most-result k p no_row h = tt
