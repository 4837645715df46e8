-- A text without its first line.
use Rattle.std.proofs.Common.{◌≡◌, ℕ, zero, suc, ◌<◌, List, [], ◌∷◌, length, take, drop, get_or, ap, ◌∙◌, arith}
use Rattle.std.proofs.lemmas.Bool.Decides.{nat_tests}
use Rattle.rel_session.specs.Lines.{lines_of, onto_first}

lines_of_other : (byte : ℕ) (bytes : List ℕ) → (byte ≡ 10 → ⊥) → lines_of (byte ∷ bytes) ≡ onto_first byte (lines_of bytes)
lines_of_other byte bytes other = grind (arith, nat_tests)

-- the first LF stands at i
pub lines_of_first : (text : List ℕ) (i : ℕ) → i < length text → ((k : ℕ) → k < i → get_or text k 0 ≡ 10 → ⊥) → get_or text i 0 ≡ 10 → lines_of text ≡ take i text ∷ lines_of (drop (suc i) text)
lines_of_first [] i within none is = absurd (omega arith)
lines_of_first (x ∷ xs) zero within none is = grind (arith, nat_tests)
lines_of_first (x ∷ xs) (suc i) within none is =
    let tail : lines_of xs ≡ take i xs ∷ lines_of (drop (suc i) xs) = lines_of_first xs i (omega arith) (λ k below. none (suc k) (omega arith)) is in
    lines_of_other x xs (none zero (omega arith)) ∙ ap (onto_first x) tail

-- there is no LF
pub lines_of_one : (text : List ℕ) → 0 < length text → ((k : ℕ) → k < length text → get_or text k 0 ≡ 10 → ⊥) → lines_of text ≡ text ∷ []
lines_of_one [] some none = absurd (omega arith)
lines_of_one (x ∷ []) some none = lines_of_other x [] (none zero (omega arith))
lines_of_one (x ∷ y ∷ ys) some none =
    let tail : lines_of (y ∷ ys) ≡ (y ∷ ys) ∷ [] = lines_of_one (y ∷ ys) (omega arith) (λ k below. none (suc k) (omega arith)) in
    lines_of_other x (y ∷ ys) (none zero (omega arith)) ∙ ap (onto_first x) tail
