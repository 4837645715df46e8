-- A string that is escaped stands for itself.
use Rattle.std.proofs.Common.{◌≡◌, ◌≢◌, ◌⊎◌, inl, inr, ℕ, ◌≤◌, ◌<◌, Bool, true, false, ◌&&◌, eqb, leb, cond, List, [], ◌∷◌, ◌++◌, length, get_or, codes, IsUtf8, refl, sym, ap, ◌∙◌, subst, arith}
use Rattle.std.proofs.lemmas.Bool.{ne_eqb}
use Rattle.std.proofs.lemmas.Bool.Decides.{eqb_tells, leb_tells}
use Rattle.std.proofs.lemmas.Str.{IsUtf8-append, IsUtf8-nil, IsUtf8-from_ascii, encode_ascii, inside_one}
use Rattle.std.proofs.lemmas.Str.Ascii.{IsAscii-nil, IsAscii-cons}
use Rattle.std.proofs.lemmas.List.{append-nil}
use Rattle.std.specs.Char.{is_ascii_hexdigit}
use lib.Utf8.{scalar, scalars, encodes, encode}
use Rattle.rel_lexer.specs.Bytes.{is_no_quote, decoded}
use Rattle.rel_lexer.specs.Pieces.{Each}
use Rattle.rel_lexer.proofs.Decoding.{no_percent, too_short, first_no_hex, second_no_hex}
use Rattle.rel_print.specs.Pages.{begins_hex, percent, escaped}
use Rattle.rel_print.proofs.Escaping.{Lacks, lacks-head, lacks-tail}
use Rattle.rel_print.proofs.Rewriting.{all-both}

-- a byte is a quote, a percent sign or another
abbrev pub Test : ℕ → ℕ → Type 0
Test b c = ((eqb b c ≡ true) × (b ≡ c)) ⊎ ((eqb b c ≡ false) × (b ≢ c))

pub quoted : (b : ℕ) (bs : List ℕ) → eqb b 34 ≡ true → escaped (b ∷ bs) ≡ 37 ∷ 50 ∷ 50 ∷ escaped bs
quoted b bs e = ap (λ p. cond p (codes "%22") (cond (eqb b 37) (percent bs) (b ∷ [])) ++ escaped bs) e

pub percented : (b : ℕ) (bs : List ℕ) → eqb b 34 ≡ false → eqb b 37 ≡ true → escaped (b ∷ bs) ≡ percent bs ++ escaped bs
percented b bs e h = ap (λ p. cond p (codes "%22") (cond (eqb b 37) (percent bs) (b ∷ [])) ++ escaped bs) e ∙ ap (λ q. cond q (percent bs) (b ∷ []) ++ escaped bs) h

pub plain : (b : ℕ) (bs : List ℕ) → eqb b 34 ≡ false → eqb b 37 ≡ false → escaped (b ∷ bs) ≡ b ∷ escaped bs
plain b bs e h = ap (λ p. cond p (codes "%22") (cond (eqb b 37) (percent bs) (b ∷ [])) ++ escaped bs) e ∙ ap (λ q. cond q (percent bs) (b ∷ []) ++ escaped bs) h

pub percent_at : (bs : List ℕ) (r : Bool) → begins_hex bs ≡ r → percent bs ≡ cond r (codes "%25") (37 ∷ [])
percent_at bs r e = ap (λ r. cond r (codes "%25") (37 ∷ [])) e

-- how what is escaped begins
record First (c : ℕ) (cs : List ℕ) : Type 0 where
  pub byte : ℕ
  pub tail : List ℕ
  pub is : escaped (c ∷ cs) ≡ byte ∷ tail
  pub which : (byte ≡ 37) ⊎ ((byte ≡ c) × (tail ≡ escaped cs))

first_percent : (c : ℕ) (cs : List ℕ) (r : Bool) → eqb c 34 ≡ false → eqb c 37 ≡ true → begins_hex cs ≡ r → First c cs
first_percent c cs true e h i = record { byte = 37; tail = 50 ∷ 53 ∷ escaped cs; is = percented c cs e h ∙ ap (λ l. l ++ escaped cs) (percent_at cs true i); which = inl refl }
first_percent c cs false e h i = record { byte = 37; tail = escaped cs; is = percented c cs e h ∙ ap (λ l. l ++ escaped cs) (percent_at cs false i); which = inl refl }

first_at : (c : ℕ) (cs : List ℕ) → Test c 34 → Test c 37 → First c cs
first_at c cs (inl p) q = record { byte = 37; tail = 50 ∷ 50 ∷ escaped cs; is = quoted c cs p.0; which = inl refl }
first_at c cs (inr p) (inl q) = first_percent c cs (begins_hex cs) p.0 q.0 refl
first_at c cs (inr p) (inr q) = record { byte = c; tail = escaped cs; is = plain c cs p.0 q.0; which = inr (refl, refl) }

first : (c : ℕ) (cs : List ℕ) → First c cs
first c cs = first_at c cs (eqb_tells c 34) (eqb_tells c 37)

hex_is : (c b : ℕ) → b ≡ c → is_ascii_hexdigit c ≡ false → is_ascii_hexdigit b ≡ false
hex_is c b e h = subst (λ x. is_ascii_hexdigit x ≡ false) (sym e) h

abbrev Stays : List ℕ → Type 0
Stays bs = decoded (37 ∷ escaped bs) ≡ 37 ∷ decoded (escaped bs)

second_stays : (c d : ℕ) (ds : List ℕ) (tail : List ℕ) → escaped (c ∷ d ∷ ds) ≡ c ∷ tail → tail ≡ escaped (d ∷ ds) → is_ascii_hexdigit d ≡ false → (f : First d ds) → (f.byte ≡ 37) ⊎ ((f.byte ≡ d) × (f.tail ≡ escaped ds)) → Stays (c ∷ d ∷ ds)
second_stays c d ds tail e i h f (inl k) = second_no_hex 37 c f.byte (escaped (c ∷ d ∷ ds)) tail f.tail e (i ∙ f.is) (hex_is 37 f.byte k refl)
second_stays c d ds tail e i h f (inr k) = second_no_hex 37 c f.byte (escaped (c ∷ d ∷ ds)) tail f.tail e (i ∙ f.is) (hex_is d f.byte k.0 h)

right_false : (p q : Bool) → (p && q) ≡ false → p ≡ true → q ≡ false
right_false true q e h = e
right_false false q e h = cc

hex_stays : (c : ℕ) (cs : List ℕ) (tail : List ℕ) (b : Bool) → is_ascii_hexdigit c ≡ b → begins_hex (c ∷ cs) ≡ false → escaped (c ∷ cs) ≡ c ∷ tail → tail ≡ escaped cs → Stays (c ∷ cs)
hex_stays c cs tail false h n e i = first_no_hex 37 c (escaped (c ∷ cs)) tail e h
hex_stays c [] tail true h n e i = too_short 37 (escaped (c ∷ [])) (let size : length (escaped (c ∷ [])) ≡ 1 = ap length (e ∙ ap (λ l. c ∷ l) i) in omega arith)
hex_stays c (d ∷ ds) tail true h n e i = second_stays c d ds tail e i (right_false (is_ascii_hexdigit c) (is_ascii_hexdigit d) n h) (first d ds) (first d ds).which

stays_at : (c : ℕ) (cs : List ℕ) → begins_hex (c ∷ cs) ≡ false → (f : First c cs) → (f.byte ≡ 37) ⊎ ((f.byte ≡ c) × (f.tail ≡ escaped cs)) → Stays (c ∷ cs)
stays_at c cs n f (inl k) = first_no_hex 37 f.byte (escaped (c ∷ cs)) f.tail f.is (hex_is 37 f.byte k refl)
stays_at c cs n f (inr k) = hex_stays c cs f.tail (is_ascii_hexdigit c) refl n (f.is ∙ ap (λ b. b ∷ f.tail) k.0) k.1

stays : (bs : List ℕ) → begins_hex bs ≡ false → Stays bs
stays [] n = too_short 37 [] (omega arith)
stays (c ∷ cs) n = stays_at c cs n (first c cs) (first c cs).which

abbrev Decodes : ℕ → List ℕ → Type 0
Decodes b bs = decoded (escaped (b ∷ bs)) ≡ b ∷ decoded (escaped bs)

decodes_quote : (l : List ℕ) → decoded (37 ∷ 50 ∷ 50 ∷ l) ≡ 34 ∷ decoded l
unfolding decoded
decodes_quote l = refl

decodes_percent : (l : List ℕ) → decoded (37 ∷ 50 ∷ 53 ∷ l) ≡ 37 ∷ decoded l
unfolding decoded
decodes_percent l = refl

percent_decodes : (b : ℕ) (bs : List ℕ) (r : Bool) → eqb b 34 ≡ false → eqb b 37 ≡ true → b ≡ 37 → begins_hex bs ≡ r → Decodes b bs
percent_decodes b bs true e h k i = ap decoded (percented b bs e h ∙ ap (λ l. l ++ escaped bs) (percent_at bs true i)) ∙ decodes_percent (escaped bs) ∙ ap (λ x. x ∷ decoded (escaped bs)) (sym k)
percent_decodes b bs false e h k i = ap decoded (percented b bs e h ∙ ap (λ l. l ++ escaped bs) (percent_at bs false i)) ∙ stays bs i ∙ ap (λ x. x ∷ decoded (escaped bs)) (sym k)

decodes_at : (b : ℕ) (bs : List ℕ) → Test b 34 → Test b 37 → Decodes b bs
decodes_at b bs (inl p) q = ap decoded (quoted b bs p.0) ∙ decodes_quote (escaped bs) ∙ ap (λ x. x ∷ decoded (escaped bs)) (sym p.1)
decodes_at b bs (inr p) (inl q) = percent_decodes b bs (begins_hex bs) p.0 q.0 q.1 refl
decodes_at b bs (inr p) (inr q) = ap decoded (plain b bs p.0 q.0) ∙ no_percent b (escaped bs) q.1

decoded-nil : decoded [] ≡ []
unfolding decoded
decoded-nil = refl

pub decoded-escaped : (t : List ℕ) → decoded (escaped t) ≡ t
decoded-escaped [] = decoded-nil
decoded-escaped (b ∷ bs) = decodes_at b bs (eqb_tells b 34) (eqb_tells b 37) ∙ ap (λ l. b ∷ l) (decoded-escaped bs)

abbrev NoQuotes : List ℕ → Type 0
NoQuotes l = Each is_no_quote l

percent_quotes : (bs : List ℕ) (r : Bool) → begins_hex bs ≡ r → NoQuotes (percent bs)
percent_quotes bs true e = subst NoQuotes (sym (percent_at bs true e)) (refl, (refl, (refl, tt)))
percent_quotes bs false e = subst NoQuotes (sym (percent_at bs false e)) (refl, tt)

quotes_at : (b : ℕ) (bs : List ℕ) → Test b 34 → Test b 37 → NoQuotes (escaped bs) → NoQuotes (escaped (b ∷ bs))
quotes_at b bs (inl p) q h = subst NoQuotes (sym (quoted b bs p.0)) (refl, (refl, (refl, h)))
quotes_at b bs (inr p) (inl q) h = subst NoQuotes (sym (percented b bs p.0 q.0)) (all-both (λ x. is_no_quote x ≡ true) (percent bs) (escaped bs) (percent_quotes bs (begins_hex bs) refl) h)
quotes_at b bs (inr p) (inr q) h = subst NoQuotes (sym (plain b bs p.0 q.0)) (ap (λ x. cond x false true) p.0, h)

pub no_quotes : (t : List ℕ) → NoQuotes (escaped t)
no_quotes [] = tt
no_quotes (b ∷ bs) = quotes_at b bs (eqb_tells b 34) (eqb_tells b 37) (no_quotes bs)

ascii_one : (b : ℕ) → b < 128 → IsUtf8 (b ∷ [])
ascii_one b h = IsUtf8-from_ascii (b ∷ []) (IsAscii-cons b [] h IsAscii-nil)

ascii_three : (b c d : ℕ) → b < 128 → c < 128 → d < 128 → IsUtf8 (b ∷ c ∷ d ∷ [])
ascii_three b c d h i j = IsUtf8-from_ascii (b ∷ c ∷ d ∷ []) (IsAscii-cons b (c ∷ d ∷ []) h (IsAscii-cons c (d ∷ []) i (IsAscii-cons d [] j IsAscii-nil)))

percent_utf8 : (bs : List ℕ) (r : Bool) → begins_hex bs ≡ r → IsUtf8 (percent bs)
percent_utf8 bs true e = subst IsUtf8 (sym (percent_at bs true e)) (ascii_three 37 50 53 (omega arith) (omega arith) (omega arith))
percent_utf8 bs false e = subst IsUtf8 (sym (percent_at bs false e)) (ascii_one 37 (omega arith))

utf8_at : (b : ℕ) (bs : List ℕ) → b < 128 → Test b 34 → Test b 37 → IsUtf8 (escaped bs) → IsUtf8 (escaped (b ∷ bs))
utf8_at b bs s (inl p) q h = subst IsUtf8 (sym (quoted b bs p.0)) (IsUtf8-append (37 ∷ 50 ∷ 50 ∷ []) (escaped bs) (ascii_three 37 50 50 (omega arith) (omega arith) (omega arith)) h)
utf8_at b bs s (inr p) (inl q) h = subst IsUtf8 (sym (percented b bs p.0 q.0)) (IsUtf8-append (percent bs) (escaped bs) (percent_utf8 bs (begins_hex bs) refl) h)
utf8_at b bs s (inr p) (inr q) h = subst IsUtf8 (sym (plain b bs p.0 q.0)) (IsUtf8-append (b ∷ []) (escaped bs) (ascii_one b s) h)

plain_front : (xs ys : List ℕ) → Lacks 34 xs → Lacks 37 xs → escaped (xs ++ ys) ≡ xs ++ escaped ys
plain_front [] ys h k = refl
plain_front (x ∷ xs) ys h k = plain x (xs ++ ys) (ne_eqb x 34 (lacks-head 34 x xs h)) (ne_eqb x 37 (lacks-head 37 x xs k)) ∙ ap (λ l. x ∷ l) (plain_front xs ys (lacks-tail 34 x xs h) (lacks-tail 37 x xs k))

-- A character past ASCII has no byte of ASCII.
no_ascii : (c b : ℕ) → b < 128 → 128 ≤ c → Lacks b (encode c)
no_ascii c b h k i l e =
    let small : get_or (encode c) i 0 < 128 = omega arith in
    let same : c ≡ get_or (encode c) i 0 = inside_one c [] (encode c) i (sym (append-nil (encode c))) l small in
    omega arith

and_left : (p q : Bool) → (p && q) ≡ true → p ≡ true
and_left true q e = refl
and_left false q e = cc

and_right : (p q : Bool) → (p && q) ≡ true → q ≡ true
and_right true q e = e
and_right false q e = cc

char_utf8 : (c : ℕ) → scalar c ≡ true → IsUtf8 (encode c)
char_utf8 c h = (c ∷ [], (ap (λ x. x && true) h, append-nil (encode c)))

utf8_char : (c : ℕ) (bs : List ℕ) → scalar c ≡ true → (c < 128) ⊎ (128 ≤ c) → IsUtf8 (escaped bs) → IsUtf8 (escaped (encode c ++ bs))
utf8_char c bs s (inl l) h = subst (λ x. IsUtf8 (escaped (x ++ bs))) (sym (encode_ascii c l)) (utf8_at c bs l (eqb_tells c 34) (eqb_tells c 37) h)
utf8_char c bs s (inr l) h = subst IsUtf8 (sym (plain_front (encode c) bs (no_ascii c 34 (omega arith) l) (no_ascii c 37 (omega arith) l))) (IsUtf8-append (encode c) (escaped bs) (char_utf8 c s) h)

small_or : (c : ℕ) → (c < 128) ⊎ (128 ≤ c)
small_or c = by_test (leb_tells 128 c)
  where
    by_test : ((leb 128 c ≡ true) × (128 ≤ c)) ⊎ ((leb 128 c ≡ false) × (c < 128)) → (c < 128) ⊎ (128 ≤ c)
    by_test (inl p) = inr p.1
    by_test (inr p) = inl p.1

utf8_chars : (cs : List ℕ) → scalars cs ≡ true → IsUtf8 (escaped (encodes cs))
utf8_chars [] h = IsUtf8-nil
utf8_chars (c ∷ cs) h = utf8_char c (encodes cs) (and_left (scalar c) (scalars cs) h) (small_or c) (utf8_chars cs (and_right (scalar c) (scalars cs) h))

pub utf8-escaped : (t : List ℕ) → IsUtf8 t → IsUtf8 (escaped t)
utf8-escaped t h = subst (λ l. IsUtf8 (escaped l)) h.1.1 (utf8_chars h.0 h.1.0)
