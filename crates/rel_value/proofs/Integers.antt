-- Integers as they are read.
use Rattle.std.proofs.Common.{◌≡◌, ℕ, ◌<◌, ◌^◌, ◌==◌, ℤ, pos, negsuc, Bool, true, false, nat_lt, cond, List, [], ◌∷◌, ◌↔◌, length, Option, Result, Ok, Err, Some, refl, sym, ap, subst, ◌∙◌, arith, Decides, w64, FitsSigned}
use Rattle.std.specs.Char.{is_ascii_digit}
use Rattle.std.specs.List.{list_all, AllPass}
use Rattle.std.specs.Str.Parse.{IsNumeral, ParsesSigned, digits_value, signed_digits_value, without_leading_sign}
use Rattle.std.proofs.lemmas.Bool.Decides.{Decides-like, Decides-ltb, same_from_decides, nat_tests}
use Rattle.std.proofs.lemmas.List.Sums.{list_all-from_AllPass, AllPass-from_list_all}
use Rattle.rel_value.specs.Casts.{is_numeral, behind_minus, signed, signed_of, integer_read}
use Rattle.rel_value.specs.Outcomes.{Answers, fits_i64}
use Rattle.rel_value.specs.declared.value.Value.TheVariants.{Integer}
use Rattle.rel_value.specs.declared.fault.ValueFault.TheVariants.{Absent}
use Rattle.rel_value.proofs.Shown.{shown-Integer}
use Rattle.rel_value.proofs.Digits.{and-both, Decides-digits}

pub fits-decides : (z : ℤ) → Decides (fits_i64 z) (FitsSigned w64 z)
fits-decides (pos n) = Decides-like _ (λ h. record { sfits = h }) (λ f. f.sfits) (Decides-ltb n (2 ^ 63))
fits-decides (negsuc n) = Decides-like _ (λ h. record { sfits = h }) (λ f. f.sfits) (Decides-ltb n (2 ^ 63))

pub numeral-is : (text : List ℕ) (r : Bool) → 0 < length text → (r ≡ true) ↔ AllPass is_ascii_digit text → r ≡ is_numeral text
numeral-is text r some h =
    let long : nat_lt 0 (length text) ≡ true = (Decides-ltb 0 (length text)).1 some in
    rw long (same_from_decides r (list_all is_ascii_digit text) (h.0, h.1) (AllPass-from_list_all is_ascii_digit text, list_all-from_AllPass is_ascii_digit text))

-- what std reads of the text is what it spells
record SameReading (text : List ℕ) : Type 0 where
  rest : without_leading_sign text ≡ behind_minus text
  value : signed_digits_value 10 text ≡ signed text (digits_value 10 (behind_minus text))

not-plus : (b : ℕ) → is_ascii_digit b ≡ true → (b == 43) ≡ false
not-plus b h = grind (arith, nat_tests)

behind : (b : ℕ) (bs : List ℕ) (t : Bool) → (b == 45) ≡ t → is_numeral (cond t bs (b ∷ bs)) ≡ true → SameReading (b ∷ bs)
behind b bs true e h = record { rest = rw e refl; value = rw e refl }
behind b bs false e h =
    let first : is_ascii_digit b ≡ true = (and-both (is_ascii_digit b) (list_all is_ascii_digit bs) (and-both (nat_lt 0 (length (b ∷ bs))) (list_all is_ascii_digit (b ∷ bs)) h).1).0 in
    let plus = not-plus b first in
    record { rest = rw (e, plus) refl; value = rw (e, plus) refl }

reading : (text : List ℕ) → is_numeral (behind_minus text) ≡ true → SameReading text
reading [] h = cc
reading (b ∷ bs) h = behind b bs (b == 45) refl h

answers : (z : ℤ) → fits_i64 z ≡ true → Answers (integer_read (Some z)) (Ok (Integer z))
answers z fits = rw fits (shown-Integer z)

numeral-from : (text : List ℕ) → is_numeral text ≡ true → IsNumeral 10 text
numeral-from text h =
    let both = and-both (nat_lt 0 (length text)) (list_all is_ascii_digit text) h in
    ((Decides-ltb 0 (length text)).0 both.0, (Decides-digits text).0 both.1)

-- what is parsed from a text fits
pub fits-parsed : {E : Type 0} (text : List ℕ) (r : Result ℤ E) (z : ℤ) → ParsesSigned w64 10 text r → r ≡ Ok z → FitsSigned w64 z
fits-parsed {E} text r z parses is =
    let P : Result ℤ E → Type 0 = λ s. ParsesSigned w64 10 text s in
    let h : ParsesSigned {E = E} w64 10 text (Ok z) = subst P is parses in
    let F : ℤ → Type 0 = λ y. FitsSigned w64 y in
    subst F (sym h.1) h.0.1

pub read-ok : {E : Type 0} (text : List ℕ) (r : Result ℤ E) (z : ℤ) → is_numeral (behind_minus text) ≡ true → ParsesSigned w64 10 text r → r ≡ Ok z → Answers (integer_read (signed_of text)) (Ok (Integer z))
read-ok {E} text r z numeral parses is =
    let P : Result ℤ E → Type 0 = λ s. ParsesSigned w64 10 text s in
    let h : ParsesSigned {E = E} w64 10 text (Ok z) = subst P is parses in
    let same = reading text numeral in
    let e : signed_of text ≡ Some z = rw numeral (ap Some (sym (h.1 ∙ same.value))) in
    let fits : FitsSigned w64 z = fits-parsed text r z parses is in
    let Q : Option ℤ → Type 0 = λ o. Answers (integer_read o) (Ok (Integer z)) in
    subst Q (sym e) (answers z ((fits-decides z).1 fits))

bool-false : (b : Bool) → (b ≡ true → ⊥) → b ≡ false
bool-false true h = absurd (h refl)
bool-false false h = refl

pub read-err : {E : Type 0} (text : List ℕ) (r : Result ℤ E) (why : E) → is_numeral (behind_minus text) ≡ true → ParsesSigned w64 10 text r → r ≡ Err why → Answers (integer_read (signed_of text)) (Err Absent)
read-err {E} text r why numeral parses is =
    let P : Result ℤ E → Type 0 = λ s. ParsesSigned w64 10 text s in
    let h : ParsesSigned {E = E} w64 10 text (Err why) = subst P is parses in
    let same = reading text numeral in
    let v : ℤ = signed text (digits_value 10 (behind_minus text)) in
    let e : signed_of text ≡ Some v = rw numeral refl in
    let N : List ℕ → Type 0 = λ l. IsNumeral 10 l in
    let F : ℤ → Type 0 = λ y. FitsSigned w64 y in
    let off : fits_i64 v ≡ false = bool-false (fits_i64 v) (λ t. h (subst N (sym same.rest) (numeral-from (behind_minus text) numeral), subst F (sym same.value) ((fits-decides v).0 t))) in
    let a : Answers (integer_read (Some v)) (Err Absent) = rw off refl in
    let Q : Option ℤ → Type 0 = λ o. Answers (integer_read o) (Err Absent) in
    subst Q (sym e) a
