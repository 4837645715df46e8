-- Wrong bytes, one by one.
use Rattle.std.proofs.Common.{◌≡◌, ℕ, zero, suc, ◌+◌, ◌-◌, ◌<◌, ◌≤◌, ◌==◌, true, false, cond, List, [], ◌∷◌, ◌++◌, length, take, drop, refl, sym, ap, ◌∙◌, arith, eq-eqb, length-drop, append_assoc}
use Rattle.std.specs.Str.{IsUtf8, IsValidUpTo}
use Rattle.std.specs.Str.Lossy.{utf8_valid_len}
use Rattle.std.proofs.lemmas.Bool.Decides.{nat_tests}
use Rattle.std.proofs.lemmas.Str.{utf8_valid_len_le, utf8_valid_len-IsUtf8, utf8_valid_len-IsValidUpTo}
use Rattle.rel_sources.specs.Words.{readable, readable_within}

within-valid : (k : ℕ) (bytes : List ℕ) → utf8_valid_len bytes ≡ length bytes → readable_within k bytes ≡ bytes
within-valid zero bytes e = refl
within-valid (suc k) bytes e =
    let same : (utf8_valid_len bytes == length bytes) ≡ true = eq-eqb (utf8_valid_len bytes) (length bytes) e in
    ap (λ b. cond b bytes (take (utf8_valid_len bytes) bytes ++ (63 ∷ readable_within k (drop (utf8_valid_len bytes + 1) bytes)))) same

-- there are never more wrong bytes than bytes
within-enough : (k j : ℕ) (bytes : List ℕ) → length bytes ≤ k → length bytes ≤ j → readable_within k bytes ≡ readable_within j bytes
within-enough zero j bytes below other =
    sym (within-valid j bytes (let most : utf8_valid_len bytes ≤ length bytes = utf8_valid_len_le bytes in omega arith))
within-enough (suc k) zero bytes below other =
    within-valid (suc k) bytes (let most : utf8_valid_len bytes ≤ length bytes = utf8_valid_len_le bytes in omega arith)
within-enough (suc k) (suc j) bytes below other =
    let n = utf8_valid_len bytes in
    let less : length (drop (n + 1) bytes) ≡ length bytes - (n + 1) = length-drop (n + 1) bytes in
    ap (λ l. cond (n == length bytes) bytes (take n bytes ++ (63 ∷ l))) (within-enough k j (drop (n + 1) bytes) (omega arith) (omega arith))

-- bytes that are UTF-8 are their text
pub readable-valid : (bytes : List ℕ) → IsUtf8 bytes → readable bytes ≡ bytes
unfolding readable
readable-valid bytes is = within-valid (length bytes) bytes (utf8_valid_len-IsUtf8 bytes is)

within-wrong : (k : ℕ) (bytes : List ℕ) (n : ℕ) → length bytes ≡ k → utf8_valid_len bytes ≡ n → n < length bytes
    → readable_within k bytes ≡ take n bytes ++ (63 ∷ readable_within (length (drop (n + 1) bytes)) (drop (n + 1) bytes))
within-wrong zero bytes n e is below = absurd (omega arith)
within-wrong (suc k) bytes n e is below =
    let v = utf8_valid_len bytes in
    let other : (v == length bytes) ≡ false = grind (arith, nat_tests) in
    let less : length (drop (v + 1) bytes) ≡ length bytes - (v + 1) = length-drop (v + 1) bytes in
    ap (λ b. cond b bytes (take v bytes ++ (63 ∷ readable_within k (drop (v + 1) bytes)))) other
    ∙ ap (λ l. take v bytes ++ (63 ∷ l)) (within-enough k (length (drop (v + 1) bytes)) (drop (v + 1) bytes) (omega arith) (omega arith))
    ∙ ap (λ m. take m bytes ++ (63 ∷ readable_within (length (drop (m + 1) bytes)) (drop (m + 1) bytes))) is

-- the byte behind the longest front that is UTF-8 is a `?`
pub readable-wrong : (bytes : List ℕ) (n : ℕ) → IsValidUpTo bytes n → readable bytes ≡ take n bytes ++ (63 ∷ readable (drop (n + 1) bytes))
unfolding readable
readable-wrong bytes n up = within-wrong (length bytes) bytes n refl (utf8_valid_len-IsValidUpTo bytes n up) up.short

regroup : (a b c : List ℕ) → ((a ++ b) ++ (63 ∷ [])) ++ c ≡ a ++ (b ++ (63 ∷ c))
regroup a b c = simp append_assoc

-- a text that grows by what is valid and a `?`
pub wrong-step : (text left bytes a b rest : List ℕ) (n : ℕ) → IsValidUpTo left n → text ++ readable left ≡ readable bytes → a ≡ text ++ take n left → b ≡ a ++ (63 ∷ []) → rest ≡ drop (n + 1) left → b ++ readable rest ≡ readable bytes
wrong-step text left bytes a b rest n up so_far ea eb er =
    ap (λ (x : List ℕ). x ++ readable rest) (eb ∙ ap (λ (x : List ℕ). x ++ (63 ∷ [])) ea)
    ∙ ap (λ (x : List ℕ). ((text ++ take n left) ++ (63 ∷ [])) ++ readable x) er
    ∙ regroup text (take n left) (readable (drop (n + 1) left))
    ∙ ap (λ (x : List ℕ). text ++ x) (sym (readable-wrong left n up))
    ∙ so_far
