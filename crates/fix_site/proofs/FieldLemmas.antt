-- Fields have no spaces, and each is that of one value.
use Rattle.std.proofs.Common.{ℕ, ◌≡◌, ◌^◌, ◌<◌, ℤ, pos, negsuc, List, [], ◌∷◌, sym, ap, ◌∙◌, arith, All}
use Rattle.std.specs.Prelude.{decimal}
use Rattle.std.specs.Fmt.{signed_decimal}
use Rattle.std.proofs.lemmas.Int.{ints}
use Rattle.std.proofs.lemmas.List.Elements.{All-nil, All-cons}
use Rattle.std.proofs.lemmas.Fmt.{decimal_injective, signed_decimal_injective}
use Rattle.line_forms.specs.Names.{IsName}
use Rattle.line_forms.specs.FieldLists.{fields_of, line_of}
use Rattle.line_forms.proofs.FieldReading.{fields_one}
use Rattle.line_forms.proofs.Pieces.{join-pieces}
use Rattle.line_forms.specs.Numbers.{IsId}
use Rattle.line_forms.proofs.Passing.{cons_head, cons_tail}
use Rattle.line_forms.proofs.PlainLemmas.{IsPlain, id_one, plain_decimal, plain_id, plain_name, plain_signed}
use Rattle.act_rules.specs.declared.rule.Hours.{Hours}
use Rattle.fix_site.specs.RuleLines.{IsHours, IsCount, IsWait}
use Rattle.fix_site.specs.Readings.{named_fields, counted_fields}
use lib.Signed.{mag}

wait_mag : (z : ℤ) → IsWait z → mag z < 2 ^ 63
wait_mag (pos n) h = omega (arith, ints, h.1)
wait_mag (negsuc n) h = omega (arith, ints, h.0)

two_plain : (a b : List ℕ) → IsPlain a → IsPlain b → All IsPlain (a ∷ b ∷ [])
two_plain a b h k = All-cons IsPlain a (b ∷ []) h (All-cons IsPlain b [] k (All-nil IsPlain))

-- a name and an id
pub plain_named : (name : List ℕ) (id : ℕ) → IsName name → IsId id → All IsPlain (named_fields name id)
plain_named name id h k = two_plain name (decimal id) (plain_name name h) (plain_id id k)

pub named_one : (name other : List ℕ) (id next : ℕ) → IsName name → IsName other → IsId id → IsId next → line_of (named_fields name id) ≡ line_of (named_fields other next) → (name ≡ other) × (id ≡ next)
named_one name other id next h k m n e =
    let same = fields_one (named_fields name id) (named_fields other next) (omega arith) (omega arith) (plain_named name id h m) (plain_named other next k n) e in
    (cons_head name other _ _ same, id_one id next m n (cons_head (decimal id) (decimal next) [] [] (cons_tail name other _ _ same)))

-- a count and a wait
pub plain_count : (count : ℕ) → IsCount count → IsPlain (decimal count)
plain_count count h = plain_decimal count (omega (arith, h))

pub plain_wait : (wait : ℤ) → IsWait wait → IsPlain (signed_decimal wait)
plain_wait wait h = plain_signed wait (wait_mag wait h)

pub plain_counted : (count : ℕ) (wait : ℤ) → IsCount count → IsWait wait → All IsPlain (counted_fields count wait)
plain_counted count wait h k = two_plain (decimal count) (signed_decimal wait) (plain_count count h) (plain_wait wait k)

pub both_one : (a b : ℕ) (t u : ℤ) → IsCount a → IsCount b → IsWait t → IsWait u → counted_fields a t ≡ counted_fields b u → (a ≡ b) × (t ≡ u)
both_one a b t u h k m n e = (
  decimal_injective a b (omega (arith, h)) (omega (arith, k)) (cons_head (decimal a) (decimal b) _ _ e),
  signed_decimal_injective t u (wait_mag t m) (wait_mag u n) (cons_head (signed_decimal t) (signed_decimal u) [] [] (cons_tail (decimal a) (decimal b) _ _ e)),
)

pub counted_one : (a b : ℕ) (t u : ℤ) → IsCount a → IsCount b → IsWait t → IsWait u → line_of (counted_fields a t) ≡ line_of (counted_fields b u) → (a ≡ b) × (t ≡ u)
counted_one a b t u h k m n e =
    both_one a b t u h k m n (fields_one (counted_fields a t) (counted_fields b u) (omega arith) (omega arith) (plain_counted a t h m) (plain_counted b u k n) e)

-- two fields of a text
pub first_same : (text a b x y : List ℕ) → fields_of text ≡ a ∷ b ∷ [] → fields_of text ≡ x ∷ y ∷ [] → a ≡ x
first_same text a b x y h k = cons_head a x (b ∷ []) (y ∷ []) (sym h ∙ k)

pub second_same : (text a b x y : List ℕ) → fields_of text ≡ a ∷ b ∷ [] → fields_of text ≡ x ∷ y ∷ [] → b ≡ y
second_same text a b x y h k = cons_head b y [] [] (cons_tail a x (b ∷ []) (y ∷ []) (sym h ∙ k))

pub pair_text : (text a b x y : List ℕ) → fields_of text ≡ a ∷ b ∷ [] → a ≡ x → b ≡ y → text ≡ line_of (x ∷ y ∷ [])
pair_text text a b x y h k m = sym (join-pieces 32 text) ∙ ap line_of (h ∙ ap (λ l. l ∷ b ∷ []) k ∙ ap (λ l. x ∷ l ∷ []) m)

pub hours_plain : (hours : Hours) → IsHours hours → All IsPlain (decimal hours.from ∷ decimal hours.to ∷ [])
hours_plain hours is = two_plain (decimal hours.from) (decimal hours.to) (plain_decimal hours.from (omega (arith, is.from))) (plain_decimal hours.to (omega (arith, is.to.1)))
