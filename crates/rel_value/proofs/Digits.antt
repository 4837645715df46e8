-- Decimal digits.
use Rattle.std.proofs.Common.{◌≡◌, ℕ, ◌+◌, ◌/◌, ◌%◌, ◌<◌, ◌≤◌, Bool, true, false, ◌&&◌, List, [], ◌∷◌, ◌++◌, refl, ap, ◌∙◌, arith, Decides, decimal}
use Rattle.std.specs.Char.{is_ascii_digit, digit_value}
use Rattle.std.specs.List.{list_all}
use Rattle.std.specs.Str.Parse.{AllDigits}
use Rattle.std.proofs.lemmas.Bool.Decides.{nat_tests}
use Rattle.std.proofs.lemmas.Str.Parse.{digit_from_value}
use Rattle.std.proofs.lemmas.Fmt.{decimal_digit, decimal_step}
use Rattle.rel_value.specs.Spellings.{two}

pub and-both : (b c : Bool) → (b && c) ≡ true → (b ≡ true) × (c ≡ true)
and-both true c h = (refl, h)
and-both false c h = cc

digit-small : (byte : ℕ) → is_ascii_digit byte ≡ true → digit_value byte < 10
digit-small byte h = grind (arith, nat_tests)

all-digits : (digits : List ℕ) → list_all is_ascii_digit digits ≡ true → AllDigits 10 digits
all-digits [] h = tt
all-digits (byte ∷ bytes) h =
    let both = and-both (is_ascii_digit byte) (list_all is_ascii_digit bytes) h in
    (digit-small byte both.0, all-digits bytes both.1)

digit-is : (byte : ℕ) → digit_value byte < 10 → is_ascii_digit byte ≡ true
digit-is byte small = let range = digit_from_value byte small in grind (arith, nat_tests)

digits-all : (digits : List ℕ) → AllDigits 10 digits → list_all is_ascii_digit digits ≡ true
digits-all [] all = refl
digits-all (byte ∷ bytes) all = rw (digit-is byte all.0) (digits-all bytes all.1)

pub Decides-digits : (digits : List ℕ) → Decides (list_all is_ascii_digit digits) (AllDigits 10 digits)
Decides-digits digits = (all-digits digits, digits-all digits)

-- a number below 10 after a 0, and one of two digits
pub two-small : (n : ℕ) → n < 10 → 48 ∷ decimal n ≡ two n
two-small n small = ap (λ l. 48 ∷ l) (decimal_digit n small) ∙ digits n small
  where
    digits : (n : ℕ) → n < 10 → 48 ∷ (48 + n) ∷ [] ≡ two n
    digits n small = let a : 48 + n / 10 ≡ 48 = omega arith in let b : 48 + n % 10 ≡ 48 + n = omega arith in rw (a, b) refl

pub two-large : (n : ℕ) → 10 ≤ n → n < 100 → decimal n ≡ two n
two-large n large small =
    let tens : decimal (n / 10) ≡ (48 + n / 10) ∷ [] = decimal_digit (n / 10) (omega arith) in
    decimal_step n large (omega arith) ∙ ap (λ l. l ++ ((48 + n % 10) ∷ [])) tens
