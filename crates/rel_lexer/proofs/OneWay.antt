-- A text has its pieces in one way.
use Rattle.std.proofs.Common.{◌≡◌, ℕ, List, [], ◌∷◌, ◌++◌, Bool, true, false, ◌&&◌, cond, Option, Some, None, refl, sym, ap, ◌∙◌, arith, append_assoc}
use Rattle.std.specs.Prelude.{nat_eq}
use Rattle.std.specs.Option.{option_map}
use Rattle.std.specs.Char.{is_ascii_digit}
use Rattle.std.proofs.lemmas.List.{append-nil, append_cancel_left}
use Rattle.std.proofs.lemmas.Bool.{false≢true, ne_eqb, eqb-true, eq-eqb}
use Rattle.std.proofs.lemmas.Bool.Decides.{nat_tests}
use Rattle.rel_lexer.specs.declared.sign.Sign.{Sign}
use Rattle.rel_lexer.specs.declared.sign.Sign.TheVariants.{OpenBracket, CloseBracket, Semicolon, Comma, Plus, Minus, Times, Slash, Ampersand, Equal, NotEqual, Less, LessOrEqual, Greater, GreaterOrEqual, Bar}
use Rattle.rel_lexer.specs.Bytes.{is_blank, begins_word, is_in_word, is_no_quote, StopsAt, NotNext, HasNoClose}
use Rattle.rel_lexer.specs.Signs.{spelling, IsWhole, BeginsNoSign}
use Rattle.rel_lexer.specs.Pieces.{Piece, blank, comment, word, number, string, sign, open_comment, open_string, stray, bytes_of, Each, Stands}

-- the longest front that passes the test
abbrev span : (ℕ → Bool) → List ℕ → List ℕ
span p [] = []
span p (b ∷ bs) = cond (p b) (b ∷ span p bs) []

span_is : (p : ℕ → Bool) (bs rest : List ℕ) → Each p bs → StopsAt p rest → span p (bs ++ rest) ≡ bs
span_is p [] [] e s = refl
span_is p [] (r ∷ rest) e s = ap (λ t. cond t (r ∷ span p rest) []) s
span_is p (b ∷ bs) rest e s = ap (λ t. cond t (b ∷ span p (bs ++ rest)) []) e.0 ∙ ap (λ l. b ∷ l) (span_is p bs rest e.1 s)

-- what stands before the first quote, or nothing where there is none
abbrev raw_of : List ℕ → Option (List ℕ)
raw_of [] = None
raw_of (b ∷ bs) = cond (is_no_quote b) (option_map (λ l. b ∷ l) (raw_of bs)) (Some [])

raw_is : (raw rest : List ℕ) → Each is_no_quote raw → raw_of (raw ++ 34 ∷ rest) ≡ Some raw
raw_is [] rest h = refl
raw_is (b ∷ bs) rest h = ap (λ t. cond t (option_map (λ l. b ∷ l) (raw_of (bs ++ 34 ∷ rest))) (Some [])) h.0 ∙ ap (option_map (λ l. b ∷ l)) (raw_is bs rest h.1)

no_raw : (raw : List ℕ) → Each is_no_quote raw → raw_of raw ≡ None
no_raw [] h = refl
no_raw (b ∷ bs) h = ap (λ t. cond t (option_map (λ l. b ∷ l) (raw_of bs)) (Some [])) h.0 ∙ ap (option_map (λ l. b ∷ l)) (no_raw bs h.1)

-- the first byte is this one
abbrev next_is : ℕ → List ℕ → Bool
next_is b [] = false
next_is b (c ∷ cs) = nat_eq c b

next_not : (b : ℕ) (bs : List ℕ) → NotNext b bs → next_is b bs ≡ false
next_not b [] n = refl
next_not b (c ∷ cs) n = ne_eqb c b n

-- what stands before the first `*/`, or nothing where there is none
abbrev body_of : List ℕ → Option (List ℕ)
body_of [] = None
body_of (b ∷ bs) = cond (nat_eq b 42 && next_is 47 bs) (Some []) (option_map (λ l. b ∷ l) (body_of bs))

and_false : (t u : Bool) → (t ≡ true → u ≡ false) → (t && u) ≡ false
and_false true u h = h refl
and_false false u h = refl

no_close : (b : ℕ) (bs : List ℕ) → (b ≡ 42 → NotNext 47 bs) → (nat_eq b 42 && next_is 47 bs) ≡ false
no_close b bs n = and_false (nat_eq b 42) (next_is 47 bs) (λ e. next_not 47 bs (n (eqb-true b 42 e)))

not_next-append : (body rest : List ℕ) → NotNext 47 body → NotNext 47 (body ++ 42 ∷ rest)
not_next-append [] rest n = λ e. false≢true (eq-eqb 42 47 e)
not_next-append (b ∷ body) rest n = n

body_is : (body rest : List ℕ) → HasNoClose body → body_of (body ++ 42 ∷ 47 ∷ rest) ≡ Some body
body_is [] rest h = refl
body_is (b ∷ body) rest h = ap (λ t. cond t (Some []) (option_map (λ l. b ∷ l) (body_of (body ++ 42 ∷ 47 ∷ rest)))) (no_close b (body ++ 42 ∷ 47 ∷ rest) (λ e. not_next-append body (47 ∷ rest) (h.0 e))) ∙ ap (option_map (λ l. b ∷ l)) (body_is body rest h.1)

no_body : (body : List ℕ) → HasNoClose body → body_of body ≡ None
no_body [] h = refl
no_body (b ∷ body) h = ap (λ t. cond t (Some []) (option_map (λ l. b ∷ l) (body_of body))) (no_close b body h.0) ∙ ap (option_map (λ l. b ∷ l)) (no_body body h.1)

-- the longest sign that a byte and those after it begin with
abbrev sign_of : ℕ → List ℕ → Option Sign
sign_of b bs =
    cond (nat_eq b 40) (Some OpenBracket) (cond (nat_eq b 41) (Some CloseBracket) (cond (nat_eq b 59) (Some Semicolon) (cond (nat_eq b 44) (Some Comma)
    (cond (nat_eq b 43) (Some Plus) (cond (nat_eq b 45) (Some Minus) (cond (nat_eq b 42) (Some Times) (cond (nat_eq b 47) (Some Slash)
    (cond (nat_eq b 38) (Some Ampersand) (cond (nat_eq b 61) (Some Equal) (cond (nat_eq b 124) (Some Bar)
    (cond (nat_eq b 33) (cond (next_is 61 bs) (Some NotEqual) None)
    (cond (nat_eq b 60) (cond (next_is 61 bs) (Some LessOrEqual) (Some Less))
    (cond (nat_eq b 62) (cond (next_is 61 bs) (Some GreaterOrEqual) (Some Greater)) None)))))))))))))

-- the piece that a `/` begins
abbrev at_comment : List ℕ → Option (List ℕ) → Piece
at_comment bs None = open_comment bs
at_comment bs (Some body) = comment body

abbrev at_slash : List ℕ → Piece
at_slash [] = sign Slash
at_slash (b ∷ bs) = cond (nat_eq b 42) (at_comment bs (body_of bs)) (sign Slash)

-- the piece that begins with a sign, or with none
abbrev with_sign : ℕ → List ℕ → Option Sign → Piece
with_sign b bs None = stray b
with_sign b bs (Some Slash) = at_slash bs
with_sign b bs (Some s) = sign s

abbrev with_raw : List ℕ → Option (List ℕ) → Piece
with_raw bs None = open_string bs
with_raw bs (Some raw) = string raw

-- the piece at the front
abbrev from_sign : ℕ → List ℕ → Piece
from_sign b bs = cond (nat_eq b 34) (with_raw bs (raw_of bs)) (with_sign b bs (sign_of b bs))

abbrev from_digit : ℕ → List ℕ → Piece
from_digit b bs = cond (is_ascii_digit b) (number b (span is_ascii_digit bs)) (from_sign b bs)

abbrev from_letter : ℕ → List ℕ → Piece
from_letter b bs = cond (begins_word b) (word b (span is_in_word bs)) (from_digit b bs)

abbrev front : List ℕ → Option Piece
front [] = None
front (b ∷ bs) = Some (cond (is_blank b) (blank b) (from_letter b bs))

letter_no_blank : (b : ℕ) → begins_word b ≡ true → is_blank b ≡ false
letter_no_blank b h = grind (arith, nat_tests)

digit_no_blank : (b : ℕ) → is_ascii_digit b ≡ true → is_blank b ≡ false
digit_no_blank b h = grind (arith, nat_tests)

digit_no_letter : (b : ℕ) → is_ascii_digit b ≡ true → begins_word b ≡ false
digit_no_letter b h = grind (arith, nat_tests)

begins : (b : ℕ) (bs : List ℕ) → next_is b bs ≡ true → (cs : List ℕ) × (bs ≡ b ∷ cs)
begins b [] h = absurd (false≢true h)
begins b (c ∷ cs) h = (cs, ap (λ x. x ∷ cs) (eqb-true c b h))

-- where the test can't hold, the rest decides
skips : (t : Bool) (x y : Option Sign) → (t ≡ true → ⊥) → cond t x y ≡ y
skips true x y n = absurd (n refl)
skips false x y n = refl

skips_both : (t u : Bool) (x y : Option Sign) → (t ≡ true → u ≡ true → ⊥) → y ≡ None → cond t (cond u x None) y ≡ None
skips_both true true x y n e = absurd (n refl refl)
skips_both true false x y n e = refl
skips_both false u x y n e = e

-- where no sign begins, this byte isn't the one byte of a sign
not_this : (b : ℕ) (bs : List ℕ) (s : Sign) (c : ℕ) (rest : List ℕ) → BeginsNoSign (b ∷ bs) → c ∷ bs ≡ spelling s ++ rest → nat_eq b c ≡ true → ⊥
not_this b bs s c rest n e h = n s rest (ap (λ x. x ∷ bs) (eqb-true b c h) ∙ e)

no_not_equal : (b : ℕ) (bs : List ℕ) → BeginsNoSign (b ∷ bs) → nat_eq b 33 ≡ true → next_is 61 bs ≡ true → ⊥
no_not_equal b bs n h i = let k = begins 61 bs i in n NotEqual k.0 (ap (λ x. x ∷ bs) (eqb-true b 33 h) ∙ ap (λ l. 33 ∷ l) k.1)

no_sign : (b : ℕ) (bs : List ℕ) → BeginsNoSign (b ∷ bs) → sign_of b bs ≡ None
no_sign b bs n =
    skips (nat_eq b 40) _ _ (not_this b bs OpenBracket 40 bs n refl)
    ∙ skips (nat_eq b 41) _ _ (not_this b bs CloseBracket 41 bs n refl)
    ∙ skips (nat_eq b 59) _ _ (not_this b bs Semicolon 59 bs n refl)
    ∙ skips (nat_eq b 44) _ _ (not_this b bs Comma 44 bs n refl)
    ∙ skips (nat_eq b 43) _ _ (not_this b bs Plus 43 bs n refl)
    ∙ skips (nat_eq b 45) _ _ (not_this b bs Minus 45 bs n refl)
    ∙ skips (nat_eq b 42) _ _ (not_this b bs Times 42 bs n refl)
    ∙ skips (nat_eq b 47) _ _ (not_this b bs Slash 47 bs n refl)
    ∙ skips (nat_eq b 38) _ _ (not_this b bs Ampersand 38 bs n refl)
    ∙ skips (nat_eq b 61) _ _ (not_this b bs Equal 61 bs n refl)
    ∙ skips (nat_eq b 124) _ _ (not_this b bs Bar 124 bs n refl)
    ∙ skips_both (nat_eq b 33) (next_is 61 bs) (Some NotEqual) _ (no_not_equal b bs n)
    (skips (nat_eq b 60) _ _ (not_this b bs Less 60 bs n refl)
    ∙ skips (nat_eq b 62) _ _ (not_this b bs Greater 62 bs n refl))

slash_is : (rest : List ℕ) → NotNext 42 rest → at_slash rest ≡ sign Slash
slash_is [] n = refl
slash_is (b ∷ bs) n = ap (λ t. cond t (at_comment bs (body_of bs)) (sign Slash)) (ne_eqb b 42 n)

sign_front : (s : Sign) (rest : List ℕ) → IsWhole s rest → front (spelling s ++ rest) ≡ Some (sign s)
sign_front OpenBracket rest h = refl
sign_front CloseBracket rest h = refl
sign_front Semicolon rest h = refl
sign_front Comma rest h = refl
sign_front Plus rest h = refl
sign_front Minus rest h = refl
sign_front Times rest h = refl
sign_front Slash rest h = ap (λ p. Some p) (slash_is rest h)
sign_front Ampersand rest h = refl
sign_front Equal rest h = refl
sign_front NotEqual rest h = refl
sign_front Less rest h = ap (λ t. Some (with_sign 60 rest (cond t (Some LessOrEqual) (Some Less)))) (next_not 61 rest h)
sign_front LessOrEqual rest h = refl
sign_front Greater rest h = ap (λ t. Some (with_sign 62 rest (cond t (Some GreaterOrEqual) (Some Greater)))) (next_not 61 rest h)
sign_front GreaterOrEqual rest h = refl
sign_front Bar rest h = refl

front_is : (p : Piece) (rest : List ℕ) → Stands p rest → front (bytes_of p ++ rest) ≡ Some p
front_is (blank b) rest h = ap (λ t. Some (cond t (blank b) (from_letter b rest))) h
front_is (comment body) rest h = ap (λ l. Some (at_comment l (body_of l))) (append_assoc body (42 ∷ 47 ∷ []) rest) ∙ ap (λ o. Some (at_comment (body ++ 42 ∷ 47 ∷ rest) o)) (body_is body rest h)
front_is (word b bs) rest h = ap (λ t. Some (cond t (blank b) (from_letter b (bs ++ rest)))) (letter_no_blank b h.0) ∙ ap (λ t. Some (cond t (word b (span is_in_word (bs ++ rest))) (from_digit b (bs ++ rest)))) h.0 ∙ ap (λ l. Some (word b l)) (span_is is_in_word bs rest h.1 h.2)
front_is (number b bs) rest h = ap (λ t. Some (cond t (blank b) (from_letter b (bs ++ rest)))) (digit_no_blank b h.0) ∙ ap (λ t. Some (cond t (word b (span is_in_word (bs ++ rest))) (from_digit b (bs ++ rest)))) (digit_no_letter b h.0) ∙ ap (λ t. Some (cond t (number b (span is_ascii_digit (bs ++ rest))) (from_sign b (bs ++ rest)))) h.0 ∙ ap (λ l. Some (number b l)) (span_is is_ascii_digit bs rest h.1 h.2)
front_is (string raw) rest h = ap (λ l. Some (with_raw l (raw_of l))) (append_assoc raw (34 ∷ []) rest) ∙ ap (λ o. Some (with_raw (raw ++ 34 ∷ rest) o)) (raw_is raw rest h)
front_is (sign s) rest h = sign_front s rest h
front_is (open_comment body) rest h = ap (λ l. Some (at_comment l (body_of l))) (ap (λ r. body ++ r) h.1 ∙ append-nil body) ∙ ap (λ o. Some (at_comment body o)) (no_body body h.0)
front_is (open_string raw) rest h = ap (λ l. Some (with_raw l (raw_of l))) (ap (λ r. raw ++ r) h.1 ∙ append-nil raw) ∙ ap (λ o. Some (with_raw raw o)) (no_raw raw h.0)
front_is (stray b) rest h = ap (λ t. Some (cond t (blank b) (from_letter b rest))) h.no_blank ∙ ap (λ t. Some (cond t (word b (span is_in_word rest)) (from_digit b rest))) h.no_word ∙ ap (λ t. Some (cond t (number b (span is_ascii_digit rest)) (from_sign b rest))) h.no_number ∙ ap (λ t. Some (cond t (with_raw rest (raw_of rest)) (with_sign b rest (sign_of b rest)))) (ne_eqb b 34 h.no_string) ∙ ap (λ o. Some (with_sign b rest o)) (no_sign b rest h.no_sign)

same_piece : (p q : Piece) → Some p ≡ Some q → p ≡ q
same_piece p q e = cc

-- the same front, and the same rest
pub one_front : (p q : Piece) (a b : List ℕ) → bytes_of p ++ a ≡ bytes_of q ++ b → Stands p a → Stands q b → (p ≡ q) × (a ≡ b)
one_front p q a b e h g =
    let same : p ≡ q = same_piece p q (sym (front_is p a h) ∙ ap front e ∙ front_is q b g) in
    (same, append_cancel_left (bytes_of p) a b (e ∙ ap (λ x. bytes_of x ++ b) (sym same)))
