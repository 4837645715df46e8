-- Texts of bytes from 45 on, as numbers and names, and what they are known by. Other crates may cite these lemmas.
use Rattle.std.proofs.Common.{ℕ, suc, ◌≡◌, ◌≢◌, ◌+◌, ◌%◌, ◌^◌, ◌<◌, ◌≤◌, ℤ, pos, negsuc, List, [], ◌∷◌, length, get_or, refl, ap, ◌∙◌, arith, All, inl, inr, true}
use Rattle.std.specs.Prelude.{codes, decimal, nat_le}
use Rattle.std.specs.Fmt.{signed_decimal}
use Rattle.std.specs.List.{list_all}
use Rattle.std.proofs.lemmas.Int.{ints}
use Rattle.std.proofs.lemmas.Bool.{cases_lt}
use Rattle.std.proofs.lemmas.Bool.Decides.{nat_tests}
use Rattle.std.proofs.lemmas.List.Elements.{All-nil, All-cons, All-append, All-head, All-tail, All-weaker}
use Rattle.std.proofs.lemmas.Fmt.{decimal_by_steps, decimal_digit, decimal_injective, decimal_nonempty, first_decimal, signed_decimal_injective}
use Rattle.desk_base.specs.Moments.{IsMoment}
use Rattle.line_forms.specs.Cuts.{Lacks}
use Rattle.line_forms.specs.FieldLists.{line_of}
use Rattle.line_forms.specs.Names.{IsName, is_name_byte}
use Rattle.line_forms.specs.Numbers.{IsId}
use lib.Signed.{mag}

-- every byte is 45, the sign `-`, or above
abbrev pub IsPlain : List ℕ → Type 0
IsPlain text = All (λ byte. 45 ≤ byte) text

pub plain_one : (x : ℕ) (xs : List ℕ) → 45 ≤ x → IsPlain xs → IsPlain (x ∷ xs)
plain_one x xs h k = All-cons (λ byte. 45 ≤ byte) x xs h k

pub plain_none : IsPlain []
plain_none = All-nil (λ byte. 45 ≤ byte)

-- such a text lacks each lesser byte, as a space or an LF
pub lacks_plain : (byte : ℕ) (text : List ℕ) → byte < 45 → IsPlain text → Lacks byte text
lacks_plain byte text small plain = All-weaker (λ x. 45 ≤ x) (λ x. x ≢ byte) (λ x h e. omega arith) text plain

pub plain_decimal : (n : ℕ) → n < 2 ^ 64 → IsPlain (decimal n)
plain_decimal n h =
    let P : ℕ → List ℕ → Type 0 = λ n ds. IsPlain ds in
    decimal_by_steps P
    (λ n small. plain_one (48 + n) [] (omega arith) plain_none)
    (λ n ds large front. All-append (λ byte. 45 ≤ byte) ds ((48 + n % 10) ∷ []) front (plain_one (48 + n % 10) [] (omega arith) plain_none))
    n h

pub plain_signed : (z : ℤ) → mag z < 2 ^ 63 → IsPlain (signed_decimal z)
plain_signed (pos n) h = plain_decimal n (omega (arith, h))
plain_signed (negsuc n) h = plain_one 45 (decimal (suc n)) (omega arith) (plain_decimal (suc n) (omega (arith, h)))

name_byte : (byte : ℕ) → is_name_byte byte ≡ true → 45 ≤ byte
name_byte byte h = grind (arith, nat_tests)

pub plain_name : (name : List ℕ) → IsName name → IsPlain name
plain_name name h = All-weaker (λ x. is_name_byte x ≡ true) (λ x. 45 ≤ x) name_byte name h.2

pub plain_by : (xs : List ℕ) → list_all (λ x. nat_le 45 x) xs ≡ true → IsPlain xs
plain_by [] h = plain_none
plain_by (x ∷ xs) h = elim (cases_lt x 45) [
  | inl small ↦ absurd (grind (arith, nat_tests))
  | inr large ↦ plain_one x xs large (plain_by xs (grind (arith, nat_tests)))
]

-- no LF stands in a line of such fields
pub lacks_fields : (fields : List (List ℕ)) → All IsPlain fields → Lacks 10 (line_of fields)
lacks_fields [] h = All-nil (λ x. x ≢ 10)
lacks_fields (x ∷ []) h = lacks_plain 10 x (omega arith) (All-head IsPlain x [] h)
lacks_fields (x ∷ y ∷ fields) h =
    All-append (λ x. x ≢ 10) x (32 ∷ line_of (y ∷ fields)) (lacks_plain 10 x (omega arith) (All-head IsPlain x (y ∷ fields) h))
    (All-cons (λ x. x ≢ 10) 32 (line_of (y ∷ fields)) (omega arith) (lacks_fields (y ∷ fields) (All-tail IsPlain x (y ∷ fields) h)))

-- moments and ids
pub moment_mag : (z : ℤ) → IsMoment z → mag z < 2 ^ 63
moment_mag (pos n) h = omega (arith, ints, h.1)
moment_mag (negsuc n) h = omega (arith, ints, h.0)

pub plain_moment : (moment : ℤ) → IsMoment moment → IsPlain (signed_decimal moment)
plain_moment moment is = plain_signed moment (moment_mag moment is)

pub moment_one : (t u : ℤ) → IsMoment t → IsMoment u → signed_decimal t ≡ signed_decimal u → t ≡ u
moment_one t u a b h = signed_decimal_injective t u (moment_mag t a) (moment_mag u b) h

pub plain_id : (id : ℕ) → IsId id → IsPlain (decimal id)
plain_id id h = plain_decimal id (omega (arith, h.1))

pub id_one : (a b : ℕ) → IsId a → IsId b → decimal a ≡ decimal b → a ≡ b
id_one a b h k e = decimal_injective a b (omega (arith, h.1)) (omega (arith, k.1)) e

-- ---- `-` for what is missing
pub plain_dash : IsPlain (codes "-")
plain_dash = plain_by (codes "-") refl

-- which no number is
pub dash_decimal : (n : ℕ) → n < 2 ^ 64 → codes "-" ≡ decimal n → ⊥
dash_decimal n h e = elim (cases_lt n 10) [
  | inl small ↦ let d = decimal_digit n small in let k : 45 ≡ 48 + n = ap (λ ds. get_or ds 0 0) (e ∙ d) in omega arith
  | inr large ↦ let first = first_decimal n (omega (arith, large)) h in let k : 45 ≡ get_or (decimal n) 0 0 = ap (λ ds. get_or ds 0 0) e in omega arith
]

pub dash_signed : (z : ℤ) → mag z < 2 ^ 63 → codes "-" ≡ signed_decimal z → ⊥
dash_signed (pos n) h e = dash_decimal n (omega (arith, h)) e
dash_signed (negsuc n) h e =
    let some = decimal_nonempty (suc n) (omega (arith, h)) in
    let k : 1 ≡ suc (length (decimal (suc n))) = ap (length {A = ℕ}) e in
    omega arith
