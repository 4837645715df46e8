-- No string is written longer than it stood in a text.
use Rattle.std.proofs.Common.{◌≡◌, ◌⊎◌, inl, inr, ℕ, zero, suc, ◌+◌, ◌*◌, ◌≤◌, Bool, true, false, ◌&&◌, eqb, cond, List, [], ◌∷◌, length, refl, ap, ◌∙◌, subst, length-append, arith}
use Rattle.std.proofs.lemmas.Bool.Decides.{eqb_tells}
use Rattle.std.specs.Char.{is_ascii_hexdigit, digit_value}
use Rattle.rel_lexer.specs.Bytes.{is_no_quote, decoded}
use Rattle.rel_lexer.specs.Pieces.{Each}
use Rattle.rel_lexer.proofs.Decoding.{no_percent, too_short, first_no_hex, second_no_hex}
use Rattle.rel_lexer.proofs.Decoding as lexer
use Rattle.rel_print.specs.Pages.{begins_hex, percent, escaped}
use Rattle.rel_print.proofs.Unescaping.{Test, quoted, percented, plain, percent_at}

abbrev NoQuotes : List ℕ → Type 0
NoQuotes l = Each is_no_quote l

-- A byte and what follows stand for one byte and what some rest stands for.
record Escape (b : ℕ) (r : List ℕ) : Type 0 where
  pub byte : ℕ
  pub rest : List ℕ
  pub gives : decoded (b ∷ r) ≡ byte ∷ decoded rest
  pub sizes : length r ≡ 2 + length rest
  pub quotes : NoQuotes r → NoQuotes rest

record Plain (b : ℕ) (r : List ℕ) : Type 0 where
  pub gives : decoded (b ∷ r) ≡ b ∷ decoded r
  pub none : b ≡ 37 → begins_hex r ≡ false

right_false : (p q : Bool) → (p && q) ≡ false → p ≡ true → q ≡ false
right_false true q e h = e
right_false false q e h = cc

abbrev View : ℕ → List ℕ → Type 0
View b r = Escape b r ⊎ Plain b r

view_hex : (b c d : ℕ) (bs : List ℕ) (p q : Bool) → b ≡ 37 → is_ascii_hexdigit c ≡ p → is_ascii_hexdigit d ≡ q → View b (c ∷ d ∷ bs)
view_hex b c d bs true true e h i = inl (record { byte = 16 * digit_value c + digit_value d; rest = bs; gives = lexer.escaped b c d (digit_value c) (digit_value d) (c ∷ d ∷ bs) (d ∷ bs) bs e refl refl h i refl refl; sizes = omega arith; quotes = λ n. n.1.1 })
view_hex b c d bs false q e h i = inr (record { gives = first_no_hex b c (c ∷ d ∷ bs) (d ∷ bs) refl h; none = λ k. ap (λ x. x && is_ascii_hexdigit d) h })
view_hex b c d bs true false e h i = inr (record { gives = second_no_hex b c d (c ∷ d ∷ bs) (d ∷ bs) bs refl refl i; none = λ k. ap (λ x. x && is_ascii_hexdigit d) h ∙ i })

view_at : (b : ℕ) (r : List ℕ) → Test b 37 → View b r
view_at b r (inr n) = inr (record { gives = no_percent b r n.1; none = λ e. absurd (n.1 e) })
view_at b [] (inl e) = inr (record { gives = too_short b [] (omega arith); none = λ k. refl })
view_at b (c ∷ []) (inl e) = inr (record { gives = too_short b (c ∷ []) (omega arith); none = λ k. refl })
view_at b (c ∷ d ∷ bs) (inl e) = view_hex b c d bs (is_ascii_hexdigit c) (is_ascii_hexdigit d) e.1 refl refl

view : (b : ℕ) (r : List ℕ) → View b r
view b r = view_at b r (eqb_tells b 37)

percent_most : (bs : List ℕ) (r : Bool) → begins_hex bs ≡ r → length (percent bs) ≤ 3
percent_most bs true e = omega (arith, ap length (percent_at bs true e))
percent_most bs false e = omega (arith, ap length (percent_at bs false e))

-- what is escaped grows by at most three bytes for each
most_at : (b : ℕ) (bs : List ℕ) → Test b 34 → Test b 37 → length (escaped (b ∷ bs)) ≤ 3 + length (escaped bs)
most_at b bs (inl p) q = omega (arith, ap length (quoted b bs p.0))
most_at b bs (inr p) (inl q) = omega (arith, ap length (percented b bs p.0 q.0), length-append (percent bs) (escaped bs), percent_most bs (begins_hex bs) refl)
most_at b bs (inr p) (inr q) = omega (arith, ap length (plain b bs p.0 q.0))

most : (b : ℕ) (bs : List ℕ) → length (escaped (b ∷ bs)) ≤ 3 + length (escaped bs)
most b bs = most_at b bs (eqb_tells b 34) (eqb_tells b 37)

abbrev Short : List ℕ → Type 0
Short raw = length (escaped (decoded raw)) ≤ length raw

hex_left : (p q : Bool) → (p && q) ≡ true → p ≡ true
hex_left true q e = refl
hex_left false q e = cc

hex_right : (p q : Bool) → (p && q) ≡ true → q ≡ true
hex_right true q e = e
hex_right false q e = cc

first_hex : (b : ℕ) (bs : List ℕ) → begins_hex (b ∷ bs) ≡ true → is_ascii_hexdigit b ≡ true
first_hex b [] h = cc
first_hex b (c ∷ cs) h = hex_left (is_ascii_hexdigit b) (is_ascii_hexdigit c) h

second_hex : (b c : ℕ) (cs : List ℕ) → begins_hex (b ∷ c ∷ cs) ≡ true → is_ascii_hexdigit c ≡ true
second_hex b c cs h = hex_right (is_ascii_hexdigit b) (is_ascii_hexdigit c) h

not_hex : (b c : ℕ) → is_ascii_hexdigit b ≡ true → is_ascii_hexdigit c ≡ false → b ≡ c → ⊥
not_hex b c h k e = contradicts (is_ascii_hexdigit c) (subst (λ x. is_ascii_hexdigit x ≡ true) e h) k
  where
    contradicts : (x : Bool) → x ≡ true → x ≡ false → ⊥
    contradicts x p q = cc

-- a hexadecimal digit is written as it is
hex_plain_at : (b : ℕ) (bs : List ℕ) → is_ascii_hexdigit b ≡ true → Test b 34 → Test b 37 → escaped (b ∷ bs) ≡ b ∷ escaped bs
hex_plain_at b bs h (inl p) q = absurd (not_hex b 34 h refl p.1)
hex_plain_at b bs h (inr p) (inl q) = absurd (not_hex b 37 h refl q.1)
hex_plain_at b bs h (inr p) (inr q) = plain b bs p.0 q.0

hex_plain : (b : ℕ) (bs : List ℕ) → is_ascii_hexdigit b ≡ true → escaped (b ∷ bs) ≡ b ∷ escaped bs
hex_plain b bs h = hex_plain_at b bs h (eqb_tells b 34) (eqb_tells b 37)

abbrev Below : ℕ → Type 0
Below n = (raw : List ℕ) → length raw ≤ n → NoQuotes raw → Short raw

-- Bytes that begin with no two digits, and stand for some that do, have an escape for one of the two.
saves_second : (n : ℕ) → Below n → (c d : ℕ) (r : List ℕ) → suc (suc (length r)) ≤ n → NoQuotes (c ∷ d ∷ r) → begins_hex (c ∷ d ∷ r) ≡ false → is_ascii_hexdigit c ≡ true → begins_hex (c ∷ decoded (d ∷ r)) ≡ true → View d r → length (escaped (decoded (d ∷ r))) + 3 ≤ length (c ∷ d ∷ r)
saves_second n below c d r size quotes nothing hex some (inl e) =
    let begins : begins_hex (c ∷ e.byte ∷ decoded e.rest) ≡ true = subst (λ l. begins_hex (c ∷ l) ≡ true) e.gives some in
    let digit : is_ascii_hexdigit e.byte ≡ true = second_hex c e.byte (decoded e.rest) begins in
    let fits : length e.rest ≤ n = omega (arith, e.sizes) in
    let small = below e.rest fits (e.quotes quotes.1.1) in
    let is : length (escaped (decoded (d ∷ r))) ≡ 1 + length (escaped (decoded e.rest)) = ap (λ l. length (escaped l)) e.gives ∙ ap length (hex_plain e.byte (decoded e.rest) digit) ∙ omega arith in
    omega (arith, is, small, e.sizes)
saves_second n below c d r size quotes nothing hex some (inr e) =
    let begins : begins_hex (c ∷ d ∷ decoded r) ≡ true = subst (λ l. begins_hex (c ∷ l) ≡ true) e.gives some in
    let digit : is_ascii_hexdigit d ≡ true = second_hex c d (decoded r) begins in
    absurd (not_both (is_ascii_hexdigit d) digit (right_false (is_ascii_hexdigit c) (is_ascii_hexdigit d) nothing hex))
  where
    not_both : (x : Bool) → x ≡ true → x ≡ false → ⊥
    not_both x p q = cc

decoded-nil : decoded [] ≡ []
unfolding decoded
decoded-nil = refl

saves : (n : ℕ) → Below n → (c : ℕ) (r : List ℕ) → suc (length r) ≤ n → NoQuotes (c ∷ r) → begins_hex (c ∷ r) ≡ false → begins_hex (decoded (c ∷ r)) ≡ true → View c r → length (escaped (decoded (c ∷ r))) + 2 ≤ length (c ∷ r)
saves n below c r size quotes nothing some (inl e) =
    let begins : begins_hex (e.byte ∷ decoded e.rest) ≡ true = subst (λ l. begins_hex l ≡ true) e.gives some in
    let fits : length e.rest ≤ n = omega (arith, e.sizes) in
    let small = below e.rest fits (e.quotes quotes.1) in
    let is : length (escaped (decoded (c ∷ r))) ≡ 1 + length (escaped (decoded e.rest)) = ap (λ l. length (escaped l)) e.gives ∙ ap length (hex_plain e.byte (decoded e.rest) (first_hex e.byte (decoded e.rest) begins)) ∙ omega arith in
    omega (arith, is, small, e.sizes)
saves n below c [] size quotes nothing some (inr e) =
    let begins : begins_hex (c ∷ decoded []) ≡ true = subst (λ l. begins_hex l ≡ true) e.gives some in
    absurd (nothing_begins (subst (λ l. begins_hex (c ∷ l) ≡ true) decoded-nil begins))
  where
    nothing_begins : begins_hex (c ∷ []) ≡ true → ⊥
    nothing_begins h = cc
saves n below c (d ∷ r) size quotes nothing some (inr e) =
    let begins : begins_hex (c ∷ decoded (d ∷ r)) ≡ true = subst (λ l. begins_hex l ≡ true) e.gives some in
    let digit : is_ascii_hexdigit c ≡ true = first_hex c (decoded (d ∷ r)) begins in
    let saved = saves_second n below c d r size quotes nothing digit begins (view d r) in
    let is : length (escaped (decoded (c ∷ d ∷ r))) ≡ 1 + length (escaped (decoded (d ∷ r))) = ap (λ l. length (escaped l)) e.gives ∙ ap length (hex_plain c (decoded (d ∷ r)) digit) ∙ omega arith in
    omega (arith, is, saved)

saves_any : (n : ℕ) → Below n → (r : List ℕ) → length r ≤ n → NoQuotes r → begins_hex r ≡ false → begins_hex (decoded r) ≡ true → length (escaped (decoded r)) + 2 ≤ length r
saves_any n below [] size quotes nothing some = absurd (nothing_begins (subst (λ l. begins_hex l ≡ true) decoded-nil some))
  where
    nothing_begins : begins_hex [] ≡ true → ⊥
    nothing_begins h = cc
saves_any n below (c ∷ r) size quotes nothing some = saves n below c r size quotes nothing some (view c r)

short_percent : (n : ℕ) → Below n → (b : ℕ) (r : List ℕ) → length r ≤ n → NoQuotes r → eqb b 34 ≡ false → eqb b 37 ≡ true → begins_hex r ≡ false → (some : Bool) → begins_hex (decoded r) ≡ some → length (escaped (b ∷ decoded r)) ≤ suc (length r)
short_percent n below b r size quotes p q nothing true some =
    omega (arith, saves_any n below r size quotes nothing some, ap length (percented b (decoded r) p q), length-append (percent (decoded r)) (escaped (decoded r)), ap length (percent_at (decoded r) true some))
short_percent n below b r size quotes p q nothing false some =
    omega (arith, below r size quotes, ap length (percented b (decoded r) p q), length-append (percent (decoded r)) (escaped (decoded r)), ap length (percent_at (decoded r) false some))

no_quote_is : (b : ℕ) → is_no_quote b ≡ true → eqb b 34 ≡ true → ⊥
no_quote_is b h e = contradicts (ap (λ x. cond x false true) e) h
  where
    contradicts : (cond (eqb b 34) false true) ≡ false → (cond (eqb b 34) false true) ≡ true → ⊥
    contradicts p q = cc

short_plain : (n : ℕ) → Below n → (b : ℕ) (r : List ℕ) → length r ≤ n → NoQuotes (b ∷ r) → Plain b r → Test b 34 → Test b 37 → length (escaped (b ∷ decoded r)) ≤ suc (length r)
short_plain n below b r size quotes v (inl p) q = absurd (no_quote_is b quotes.0 p.0)
short_plain n below b r size quotes v (inr p) (inl q) = short_percent n below b r size quotes.1 p.0 q.0 (v.none q.1) (begins_hex (decoded r)) refl
short_plain n below b r size quotes v (inr p) (inr q) = omega (arith, below r size quotes.1, ap length (plain b (decoded r) p.0 q.0))

short_view : (n : ℕ) → Below n → (b : ℕ) (r : List ℕ) → length r ≤ n → NoQuotes (b ∷ r) → View b r → Short (b ∷ r)
short_view n below b r size quotes (inl e) =
    let fits : length e.rest ≤ n = omega (arith, e.sizes) in
    omega (arith, ap (λ l. length (escaped l)) e.gives, most e.byte (decoded e.rest), below e.rest fits (e.quotes quotes.1), e.sizes)
short_view n below b r size quotes (inr e) =
    omega (arith, ap (λ l. length (escaped l)) e.gives, short_plain n below b r size quotes e (eqb_tells b 34) (eqb_tells b 37))

short_nil : Short []
short_nil = omega (arith, ap (λ l. length (escaped l)) decoded-nil)

below : (n : ℕ) → Below n
below n [] size quotes = short_nil
below zero (b ∷ r) size quotes = absurd (omega arith)
below (suc n) (b ∷ r) size quotes = short_view n (below n) b r (omega arith) quotes (view b r)

pub shortest : (raw : List ℕ) → NoQuotes raw → length (escaped (decoded raw)) ≤ length raw
shortest raw quotes = below (length raw) raw (omega arith) quotes
