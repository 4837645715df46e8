-- Texts without blanks at their ends.
use Rattle.std.proofs.Common.{◌≡◌, ℕ, ◌+◌, ◌-◌, ◌<◌, ◌≤◌, Bool, true, false, ◌&&◌, cond, List, [], ◌∷◌, ◌++◌, length, take, drop, get_or, refl, sym, ap, ◌∙◌, arith}
use Rattle.std.specs.List.{list_all}
use Rattle.std.proofs.lemmas.Bool.Decides.{nat_tests}
use Rattle.std.proofs.lemmas.List.{take_more, take_all}
use Rattle.rel_lexer.specs.Bytes.{is_blank}
use Rattle.rel_value.specs.Casts.{without_front, without_back}

pub blank-ascii : (b : ℕ) → is_blank b ≡ true → b < 128
blank-ascii b h = grind (arith, nat_tests)

pub front-step : (bs : List ℕ) → 0 < length bs → is_blank (get_or bs 0 0) ≡ true → without_front (drop 1 bs) ≡ without_front bs
front-step [] some h = absurd (omega arith)
front-step (b ∷ bs) some h = rw h refl

pub front-stop : (bs : List ℕ) → is_blank (get_or bs 0 0) ≡ false → bs ≡ without_front bs
front-stop [] h = refl
front-stop (b ∷ bs) h = rw h refl

pub front-none : (bs : List ℕ) → length bs ≤ 0 → bs ≡ without_front bs
front-none [] h = refl
front-none (b ∷ bs) h = absurd (omega arith)

all-snoc : (xs : List ℕ) (b : ℕ) → is_blank b ≡ true → list_all is_blank (xs ++ b ∷ []) ≡ list_all is_blank xs
all-snoc [] b h = rw h refl
all-snoc (x ∷ xs) b h = ap (λ t. is_blank x && t) (all-snoc xs b h)

and-false : (t : Bool) → (t && false) ≡ false
and-false true = refl
and-false false = refl

solid-snoc : (xs : List ℕ) (b : ℕ) → is_blank b ≡ false → list_all is_blank (xs ++ b ∷ []) ≡ false
solid-snoc [] b h = rw h refl
solid-snoc (x ∷ xs) b h = ap (λ t. is_blank x && t) (solid-snoc xs b h) ∙ and-false (is_blank x)

back-blank : (xs : List ℕ) (b : ℕ) → is_blank b ≡ true → without_back (xs ++ b ∷ []) ≡ without_back xs
back-blank [] b h = rw h refl
back-blank (x ∷ xs) b h =
    ap (λ t. cond (is_blank x && t) [] (x ∷ without_back (xs ++ b ∷ []))) (all-snoc xs b h)
    ∙ ap (λ l. cond (is_blank x && list_all is_blank xs) [] (x ∷ l)) (back-blank xs b h)

back-solid : (xs : List ℕ) (b : ℕ) → is_blank b ≡ false → without_back (xs ++ b ∷ []) ≡ xs ++ b ∷ []
back-solid [] b h = rw h refl
back-solid (x ∷ xs) b h =
    ap (λ t. cond (is_blank x && t) [] (x ∷ without_back (xs ++ b ∷ []))) (solid-snoc xs b h)
    ∙ ap (λ t. cond t [] (x ∷ without_back (xs ++ b ∷ []))) (and-false (is_blank x))
    ∙ ap (λ l. x ∷ l) (back-solid xs b h)

-- a text and its last byte
last-is : (bs : List ℕ) → 0 < length bs → bs ≡ take (length bs - 1) bs ++ get_or bs (length bs - 1) 0 ∷ []
last-is bs some =
    let n : length bs ≡ length bs - 1 + 1 = omega arith in
    sym (take_all (length bs) bs (omega arith)) ∙ ap (λ k. take k bs) n ∙ take_more bs (length bs - 1) 0 (omega arith)

pub back-step : (bs : List ℕ) → 0 < length bs → is_blank (get_or bs (length bs - 1) 0) ≡ true → without_back (take (length bs - 1) bs) ≡ without_back bs
back-step bs some h =
    sym (ap without_back (last-is bs some) ∙ back-blank (take (length bs - 1) bs) (get_or bs (length bs - 1) 0) h)

pub back-stop : (bs : List ℕ) → 0 < length bs → is_blank (get_or bs (length bs - 1) 0) ≡ false → bs ≡ without_back bs
back-stop bs some h =
    last-is bs some ∙ sym (back-solid (take (length bs - 1) bs) (get_or bs (length bs - 1) 0) h) ∙ sym (ap without_back (last-is bs some))

pub back-none : (bs : List ℕ) → length bs ≤ 0 → bs ≡ without_back bs
back-none [] h = refl
back-none (b ∷ bs) h = absurd (omega arith)
