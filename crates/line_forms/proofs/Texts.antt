-- Numbers and their texts.
use Rattle.std.proofs.Common.{◌≡◌, true, ℕ, ℤ, pos, negsuc, ◌≤ℤ◌, ◌≤◌, ◌<◌, ◌^◌, List, [], ◌∷◌, decimal, Result, Ok, subst, sym, arith, w64, FitsSigned}
use Rattle.std.specs.Fmt.{signed_decimal}
use Rattle.std.specs.Str.{IsUtf8}
use Rattle.std.specs.Char.{is_ascii_digit, digit_value}
use Rattle.std.specs.List.{AllPass}
use Rattle.std.specs.Str.Parse.{ParsesUnsigned, ParsesSigned, AllDigits}
use Rattle.std.proofs.lemmas.Str.Parse.{digit_from_value}
use Rattle.std.proofs.lemmas.Str.{IsUtf8-from_ascii}
use Rattle.std.proofs.lemmas.Str.Ascii.{IsAscii-from_all}
use Rattle.std.proofs.lemmas.List.Elements.{All-weaker, All-nil, All-cons}
use Rattle.std.proofs.lemmas.Int.{ints}
use Rattle.std.proofs.lemmas.Fmt.{IsAscii-decimal, IsAscii-signed, parse-decimal, parse-signed_decimal}
use Rattle.line_forms.specs.Numbers.{IsNumber, IsSignedNumber}
use Rattle.std.proofs.lemmas.Bool.Decides.{nat_tests}
use Rattle.line_forms.specs.Names.{is_name_byte, IsName}
use lib.Signed.{mag}

-- a number's text is text
pub IsUtf8-number : (most : ℕ) (text : List ℕ) (n : ℕ) → most < 2 ^ 64 → IsNumber most text n → IsUtf8 text
IsUtf8-number most text n small is =
    let P : List ℕ → Type 0 = IsUtf8 in
    subst P (sym is.1) (IsUtf8-from_ascii (decimal n) (IsAscii-decimal n (omega (arith, is.0))))

-- a number's text is parsed to it
pub parse-number : {E : Type 0} (most : ℕ) (text : List ℕ) (n : ℕ) (r : Result ℕ E) → most < 2 ^ 64 → IsNumber most text n → ParsesUnsigned 64 10 text r → r ≡ Ok n
parse-number most text n r small is parsed =
    let below : n < 2 ^ 64 = omega (arith, is.0) in
    parse-decimal 64 n text r below below is.1 parsed

-- numbers between those of an i64 are some
pub mag-within : (least most z : ℤ) → mag least < 2 ^ 63 → mag most < 2 ^ 63 → least ≤ℤ z → z ≤ℤ most → mag z < 2 ^ 63
mag-within least (pos m) (pos n) low high above below = let le : n ≤ m = omega (arith, ints, below) in let h : m < 2 ^ 63 = high in let r : n < 2 ^ 63 = omega arith in r
mag-within least (negsuc m) (pos n) low high above below = absurd (omega (arith, ints, below))
mag-within (pos l) most (negsuc n) low high above below = absurd (omega (arith, ints, above))
mag-within (negsuc l) most (negsuc n) low high above below = let le : n ≤ l = omega (arith, ints, above) in let h : l < 2 ^ 63 = low in let r : n < 2 ^ 63 = omega arith in r

pub fits-within : (least most z : ℤ) → FitsSigned w64 least → FitsSigned w64 most → least ≤ℤ z → z ≤ℤ most → FitsSigned w64 z
fits-within least most z low high above below = record { sfits = mag-within least most z low.sfits high.sfits above below }

pub IsUtf8-signed : (least most : ℤ) (text : List ℕ) (z : ℤ) → FitsSigned w64 least → FitsSigned w64 most → IsSignedNumber least most text z → IsUtf8 text
IsUtf8-signed least most text z low high is =
    let P : List ℕ → Type 0 = IsUtf8 in
    subst P (sym is.2) (IsUtf8-from_ascii (signed_decimal z) (IsAscii-signed z (mag-within least most z low.sfits high.sfits is.0 is.1)))

pub parse-signed : {E : Type 0} (least most : ℤ) (text : List ℕ) (z : ℤ) (r : Result ℤ E) → FitsSigned w64 least → FitsSigned w64 most → IsSignedNumber least most text z → ParsesSigned w64 10 text r → r ≡ Ok z
parse-signed least most text z r low high is parsed =
    parse-signed_decimal w64 z text r (fits-within least most z low high is.0 is.1) (mag-within least most z low.sfits high.sfits is.0 is.1) is.2 parsed

-- what is parsed from a text fits
pub fits-parsed : {E : Type 0} (text : List ℕ) (r : Result ℤ E) (z : ℤ) → ParsesSigned w64 10 text r → r ≡ Ok z → FitsSigned w64 z
fits-parsed {E} text r z parsed is =
    let P : Result ℤ E → Type 0 = λ s. ParsesSigned w64 10 text s in
    let h : ParsesSigned {E = E} w64 10 text (Ok z) = subst P is parsed in
    let Q : ℤ → Type 0 = λ y. FitsSigned w64 y in
    subst Q (sym h.1) h.0.1

-- a name is text
is_name_byte-below : (byte : ℕ) → is_name_byte byte ≡ true → byte < 128
is_name_byte-below byte h = grind (arith, nat_tests)

pub IsUtf8-name : (text : List ℕ) → IsName text → IsUtf8 text
IsUtf8-name text is = IsUtf8-from_ascii text (IsAscii-from_all text (All-weaker (λ byte. is_name_byte byte ≡ true) (λ byte. byte < 128) is_name_byte-below text is.2))

-- decimal digits
is_digit-value : (byte : ℕ) → digit_value byte < 10 → is_ascii_digit byte ≡ true
is_digit-value byte small = let r = digit_from_value byte small in grind (arith, nat_tests)

is_digit-below : (byte : ℕ) → is_ascii_digit byte ≡ true → byte < 128
is_digit-below byte h = grind (arith, nat_tests)

pub digits-numeral : (text : List ℕ) → AllDigits 10 text → AllPass is_ascii_digit text
digits-numeral [] all = All-nil (λ byte. is_ascii_digit byte ≡ true)
digits-numeral (byte ∷ bytes) all = All-cons (λ byte. is_ascii_digit byte ≡ true) byte bytes (is_digit-value byte all.0) (digits-numeral bytes all.1)

pub IsUtf8-digits : (text : List ℕ) → AllPass is_ascii_digit text → IsUtf8 text
IsUtf8-digits text all = IsUtf8-from_ascii text (IsAscii-from_all text (All-weaker (λ byte. is_ascii_digit byte ≡ true) (λ byte. byte < 128) is_digit-below text all))
