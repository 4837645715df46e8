-- What is escaped up to a byte, and from it on.
use Rattle.std.proofs.Common.{◌≡◌, ◌≢◌, ℕ, suc, ◌<◌, eqb, cond, List, [], ◌∷◌, ◌++◌, length, get_or, codes, Option, Some, None, Bor, refl, sym, ap, ◌∙◌, append_assoc, arith}
use Rattle.std.proofs.lemmas.Bool.{ne_eqb}
use Rattle.std.proofs.lemmas.Str.Pattern.{IsSplitOnceResult, split_parts}
use Rattle.rel_print.specs.Pages.{quotes_escaped, percent, escaped}

abbrev pub Lacks : ℕ → List ℕ → Type 0
Lacks c xs = (i : ℕ) → i < length xs → get_or xs i 0 ≢ c

pub lacks-head : (c x : ℕ) (xs : List ℕ) → Lacks c (x ∷ xs) → x ≢ c
lacks-head c x xs h = h 0 (omega arith)

pub lacks-tail : (c x : ℕ) (xs : List ℕ) → Lacks c (x ∷ xs) → Lacks c xs
lacks-tail c x xs h = λ i l. h (suc i) (omega arith)

pub quotes-whole : (xs : List ℕ) → Lacks 34 xs → quotes_escaped xs ≡ xs
quotes-whole [] h = refl
quotes-whole (x ∷ xs) h =
    ap (λ b. cond b (codes "%22") (x ∷ []) ++ quotes_escaped xs) (ne_eqb x 34 (lacks-head 34 x xs h))
    ∙ ap (λ l. x ∷ l) (quotes-whole xs (lacks-tail 34 x xs h))

pub quotes-cut : (xs ys : List ℕ) → Lacks 34 xs → quotes_escaped (xs ++ (34 ∷ ys)) ≡ xs ++ (codes "%22" ++ quotes_escaped ys)
quotes-cut [] ys h = refl
quotes-cut (x ∷ xs) ys h =
    ap (λ b. cond b (codes "%22") (x ∷ []) ++ quotes_escaped (xs ++ (34 ∷ ys))) (ne_eqb x 34 (lacks-head 34 x xs h))
    ∙ ap (λ l. x ∷ l) (quotes-cut xs ys (lacks-tail 34 x xs h))

pub escaped-whole : (xs : List ℕ) → Lacks 37 xs → escaped xs ≡ quotes_escaped xs
escaped-whole [] h = refl
escaped-whole (x ∷ xs) h =
    ap (λ b. cond (eqb x 34) (codes "%22") (cond b (percent xs) (x ∷ [])) ++ escaped xs) (ne_eqb x 37 (lacks-head 37 x xs h))
    ∙ ap (λ l. cond (eqb x 34) (codes "%22") (x ∷ []) ++ l) (escaped-whole xs (lacks-tail 37 x xs h))

pub escaped-cut : (xs ys : List ℕ) → Lacks 37 xs → escaped (xs ++ (37 ∷ ys)) ≡ quotes_escaped xs ++ (percent ys ++ escaped ys)
escaped-cut [] ys h = refl
escaped-cut (x ∷ xs) ys h =
    ap (λ b. cond (eqb x 34) (codes "%22") (cond b (percent (xs ++ (37 ∷ ys))) (x ∷ [])) ++ escaped (xs ++ (37 ∷ ys))) (ne_eqb x 37 (lacks-head 37 x xs h))
    ∙ ap (λ l. cond (eqb x 34) (codes "%22") (x ∷ []) ++ l) (escaped-cut xs ys (lacks-tail 37 x xs h))
    ∙ sym (append_assoc (cond (eqb x 34) (codes "%22") (x ∷ [])) (quotes_escaped xs) (percent ys ++ escaped ys))

-- What `split_once` gives at an ASCII character.
pub cut_at : (c : ℕ) (text : List ℕ) (r : Option (Bor (List ℕ) × Bor (List ℕ))) (x : Bor (List ℕ) × Bor (List ℕ)) → c < 128 → IsSplitOnceResult c text r → r ≡ Some x → (text ≡ x.0.now ++ (c ∷ x.1.now)) × Lacks c x.0.now
cut_at c text r x h s e = rw e at (split_parts c text r s h)

pub lacks_at : (c : ℕ) (text : List ℕ) (r : Option (Bor (List ℕ) × Bor (List ℕ))) → c < 128 → IsSplitOnceResult c text r → ((x : Bor (List ℕ) × Bor (List ℕ)) → r ≡ Some x → ⊥) → Lacks c text
lacks_at c text None h s n = split_parts c text None s h
lacks_at c text (Some x) h s n = absurd (n x refl)

pub quotes_step : (out rest front back mid new target : List ℕ) → (rest ≡ front ++ (34 ∷ back)) × Lacks 34 front → mid ≡ out ++ front → new ≡ mid ++ codes "%22" → out ++ quotes_escaped rest ≡ target → new ++ quotes_escaped back ≡ target
quotes_step out rest front back mid new target (is, lacks) e h i =
    ap (λ l. l ++ quotes_escaped back) (h ∙ ap (λ l. l ++ codes "%22") e)
    ∙ append_assoc (out ++ front) (codes "%22") (quotes_escaped back)
    ∙ append_assoc out front (codes "%22" ++ quotes_escaped back)
    ∙ ap (λ l. out ++ l) (sym (quotes-cut front back lacks) ∙ ap quotes_escaped (sym is))
    ∙ i

pub escaped_step : (out rest front back mid new between target : List ℕ) → (rest ≡ front ++ (37 ∷ back)) × Lacks 37 front → mid ≡ out ++ quotes_escaped front → new ≡ mid ++ between → between ≡ percent back → out ++ escaped rest ≡ target → new ++ escaped back ≡ target
escaped_step out rest front back mid new between target (is, lacks) e h p i =
    ap (λ l. l ++ escaped back) (h ∙ ap (λ l. l ++ between) e ∙ ap (λ l. (out ++ quotes_escaped front) ++ l) p)
    ∙ append_assoc (out ++ quotes_escaped front) (percent back) (escaped back)
    ∙ append_assoc out (quotes_escaped front) (percent back ++ escaped back)
    ∙ ap (λ l. out ++ l) (sym (escaped-cut front back lacks) ∙ ap escaped (sym is))
    ∙ i
