-- Versions as they are read and compared.
use Rattle.std.proofs.Common.{◌≡◌, ℕ, ◌-◌, ◌^◌, ◌<◌, ◌≤◌, Bool, true, false, ◌&&◌, nat_le, cond, List, [], ◌∷◌, ◌↔◌, length, map, take, drop, replicate, zero, suc, All, Some, None, refl, sym, ap, arith, Decides}
use Rattle.std.specs.List.{list_all}
use Rattle.std.specs.Str.Parse.{digits_value}
use Rattle.std.proofs.lemmas.Bool.Decides.{Decides-and, Decides-ltb, Decides-by_and, nat_tests}
use Rattle.line_forms.specs.Cuts.{pieces}
use Rattle.line_forms.specs.Versions.{IsVersionNumber, IsVersionOf}
use Rattle.rel_value.specs.Versions.{is_version_number, version_of, four}
use Rattle.rel_value.proofs.Digits.{Decides-digits}

number-decides : (digits : List ℕ) → Decides (is_version_number digits) (IsVersionNumber digits)
number-decides digits =
    Decides-and _ _ (Decides-and _ _ (Decides-ltb 0 (length digits)) (Decides-digits digits)) (Decides-ltb (digits_value 10 digits) (2 ^ 32))

abbrev Good : List ℕ → Type 0
Good text = (length (pieces 46 text) ≤ 4) × All IsVersionNumber (pieces 46 text)

le-decides : (n : ℕ) → Decides (nat_le n 4) (n ≤ 4)
le-decides n = (λ h. grind (arith, nat_tests), λ h. grind (arith, nat_tests))

good-decides : (text : List ℕ) → Decides (nat_le (length (pieces 46 text)) 4 && list_all is_version_number (pieces 46 text)) (Good text)
good-decides text =
    Decides-and _ _ (le-decides (length (pieces 46 text))) (Decides-by_and is_version_number IsVersionNumber (list_all is_version_number) number-decides refl (λ _ _. refl) (pieces 46 text))

-- what line_forms says of a version's numbers, in its law on them
abbrev pub AreOfPieces : Type 0
AreOfPieces = (text numbers : List ℕ) → IsVersionOf text numbers ↔ ((length (pieces 46 text) ≤ 4) × All IsVersionNumber (pieces 46 text) × (numbers ≡ map (digits_value 10) (pieces 46 text)))

pub version-some : AreOfPieces → (text numbers : List ℕ) → IsVersionOf text numbers → version_of text ≡ Some numbers
version-some of_pieces text numbers is =
    let by = (of_pieces text numbers).0 is in
    let test = (good-decides text).1 (by.0, by.1) in
    rw test (ap Some (sym by.2))

none-cond : (b : Bool) (numbers : List ℕ) → (b ≡ true → ⊥) → cond b (Some numbers) None ≡ None
none-cond true numbers h = absurd (h refl)
none-cond false numbers h = refl

pub version-none : AreOfPieces → (text : List ℕ) → ((numbers : List ℕ) → ¬ IsVersionOf text numbers) → version_of text ≡ None
version-none of_pieces text none =
    let values = map (digits_value 10) (pieces 46 text) in
    none-cond _ values (λ test. let good = (good-decides text).0 test in none values ((of_pieces text values).1 (good.0, good.1, refl)))

-- four numbers of which those behind the first k are 0
pub four-padded : (ns : List ℕ) (k : ℕ) → length ns ≡ 4 → 0 < k → k ≤ 4 → drop k ns ≡ replicate (4 - k) 0 → four (take k ns) ≡ ns
four-padded [] k long some few e = absurd (omega arith)
four-padded (a ∷ []) k long some few e = absurd (omega arith)
four-padded (a ∷ b ∷ []) k long some few e = absurd (omega arith)
four-padded (a ∷ b ∷ c ∷ []) k long some few e = absurd (omega arith)
four-padded (a ∷ b ∷ c ∷ d ∷ x ∷ xs) k long some few e = absurd (omega arith)
four-padded (a ∷ b ∷ c ∷ d ∷ []) zero long some few e = absurd (omega arith)
four-padded (a ∷ b ∷ c ∷ d ∷ []) (suc zero) long some few e = ap (λ l. a ∷ l) (sym e)
four-padded (a ∷ b ∷ c ∷ d ∷ []) (suc (suc zero)) long some few e = ap (λ l. a ∷ b ∷ l) (sym e)
four-padded (a ∷ b ∷ c ∷ d ∷ []) (suc (suc (suc zero))) long some few e = ap (λ l. a ∷ b ∷ c ∷ l) (sym e)
four-padded (a ∷ b ∷ c ∷ d ∷ []) (suc (suc (suc (suc zero)))) long some few e = refl
four-padded (a ∷ b ∷ c ∷ d ∷ []) (suc (suc (suc (suc (suc k))))) long some few e = absurd (omega arith)
