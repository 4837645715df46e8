-- Decoding a string from the left. Other crates may cite these lemmas.
use Rattle.std.proofs.Common.{◌≡◌, ◌≢◌, ℕ, ◌+◌, ◌*◌, ◌<◌, List, [], ◌∷◌, ◌++◌, length, Bool, true, false, ◌&&◌, cond, arith, sym, ap, subst, refl, ◌∙◌}
use Rattle.std.proofs.lemmas.List.{append-nil}
use Rattle.std.specs.Prelude.{nat_eq}
use Rattle.std.specs.Char.{digit_value, is_ascii_hexdigit}
use Rattle.std.proofs.lemmas.Bool.{ne_eqb}
use Rattle.rel_lexer.specs.Bytes.{decoded}

-- where the test fails, the byte stands for itself
apart : (b : ℕ) (bs : List ℕ) → ((c d : ℕ) (ds : List ℕ) → bs ≡ c ∷ d ∷ ds → (nat_eq b 37 && is_ascii_hexdigit c && is_ascii_hexdigit d) ≡ false) → decoded (b ∷ bs) ≡ b ∷ decoded bs
unfolding decoded
apart b [] h = refl
apart b (c ∷ []) h = refl
apart b (c ∷ d ∷ ds) h = ap (λ t. cond t ((16 * digit_value c + digit_value d) ∷ decoded ds) (b ∷ decoded (c ∷ d ∷ ds))) (h c d ds refl)

pub no_percent : (b : ℕ) (bs : List ℕ) → b ≢ 37 → decoded (b ∷ bs) ≡ b ∷ decoded bs
no_percent b bs n = apart b bs (λ c d ds e. ap (λ t. t && is_ascii_hexdigit c && is_ascii_hexdigit d) (ne_eqb b 37 n))

pub too_short : (b : ℕ) (bs : List ℕ) → length bs < 2 → decoded (b ∷ bs) ≡ b ∷ decoded bs
too_short b bs n = apart b bs (λ c d ds e. absurd (omega (arith, ap length e)))

both_false : (p q : Bool) → q ≡ false → (p && q) ≡ false
both_false true q e = e
both_false false q e = refl

first_false : (p q r : Bool) → q ≡ false → (p && q && r) ≡ false
first_false true q r e = ap (λ t. t && r) e
first_false false q r e = refl

pub first_no_hex : (b c : ℕ) (bs tail : List ℕ) → bs ≡ c ∷ tail → is_ascii_hexdigit c ≡ false → decoded (b ∷ bs) ≡ b ∷ decoded bs
first_no_hex b c bs tail e n = apart b bs (λ c' d ds e'. let k : c ≡ c' = (let both : c ∷ tail ≡ c' ∷ d ∷ ds = sym e ∙ e' in cc) in first_false (nat_eq b 37) (is_ascii_hexdigit c') (is_ascii_hexdigit d) (subst (λ x. is_ascii_hexdigit x ≡ false) k n))

pub second_no_hex : (b c d : ℕ) (bs tail more : List ℕ) → bs ≡ c ∷ tail → tail ≡ d ∷ more → is_ascii_hexdigit d ≡ false → decoded (b ∷ bs) ≡ b ∷ decoded bs
second_no_hex b c d bs tail more e i n = apart b bs (λ c' d' ds e'. let k : d ≡ d' = (let both : c ∷ d ∷ more ≡ c' ∷ d' ∷ ds = sym (e ∙ ap (λ l. c ∷ l) i) ∙ e' in cc) in both_false (nat_eq b 37 && is_ascii_hexdigit c') (is_ascii_hexdigit d') (subst (λ x. is_ascii_hexdigit x ≡ false) k n))

pub escaped : (b c d high low : ℕ) (bs tail more : List ℕ) → b ≡ 37 → bs ≡ c ∷ tail → tail ≡ d ∷ more → is_ascii_hexdigit c ≡ true → is_ascii_hexdigit d ≡ true → high ≡ digit_value c → low ≡ digit_value d → decoded (b ∷ bs) ≡ (16 * high + low) ∷ decoded more
unfolding decoded
escaped b c d high low bs tail more e i j p q h l =
    ap (λ x. decoded (x ∷ bs)) e ∙ ap (λ x. decoded (37 ∷ x)) (i ∙ ap (λ x. c ∷ x) j)
    ∙ ap (λ t. cond (t && is_ascii_hexdigit d) ((16 * digit_value c + digit_value d) ∷ decoded more) (37 ∷ decoded (c ∷ d ∷ more))) p
    ∙ ap (λ t. cond t ((16 * digit_value c + digit_value d) ∷ decoded more) (37 ∷ decoded (c ∷ d ∷ more))) q
    ∙ ap (λ x. (16 * x + digit_value d) ∷ decoded more) (sym h) ∙ ap (λ x. (16 * high + x) ∷ decoded more) (sym l)

pub decoded_all : (out rest raw : List ℕ) → length rest ≡ 0 → out ++ decoded rest ≡ decoded raw → out ≡ decoded raw
unfolding decoded
decoded_all out [] raw h e = sym (append-nil out) ∙ e
decoded_all out (x ∷ rest) raw h e = absurd (omega arith)
