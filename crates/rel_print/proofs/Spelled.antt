-- Tokens that are written are read as these tokens.
use Rattle.std.proofs.Common.{◌≡◌, ◌≢◌, ℕ, ℤ, ◌^◌, ◌≤◌, ◌<◌, pos, Bool, true, false, List, [], ◌∷◌, ◌++◌, length, refl, sym, ap, ◌∙◌, subst, append_assoc, length-append, codes, decimal, IsUtf8, arith, rules}
use Rattle.std.proofs.lemmas.Bool.Decides.{nat_tests}
use Rattle.std.proofs.lemmas.Str.Parse.{IsNumeralModel, numerals_by_fold}
use Rattle.std.proofs.lemmas.Fmt.{digits_decimal, digits_value-decimal, decimal_nonempty}
use Rattle.std.specs.Char.{is_ascii_digit}
use Rattle.std.specs.Fmt.{signed_decimal}
use Rattle.rel_lexer.specs.declared.place.Place.{Place}
use Rattle.rel_lexer.specs.declared.sign.Sign.{Sign}
use Rattle.rel_lexer.specs.declared.sign.Sign.TheVariants as lex
use Rattle.rel_lexer.specs.declared.token.TokenKind.TheVariants as lexed
use Rattle.rel_lexer.specs.Bytes.{begins_word, is_in_word, StopsAt, NotNext, number_from}
use Rattle.rel_lexer.specs.Signs.{spelling, IsWhole}
use Rattle.rel_lexer.specs.Pieces.{Piece, Each, Lexes, bytes_of, Stands}
use Rattle.rel_lexer.specs.Pieces as piece
use Rattle.rel_lexer.specs.Tokens.{IsGood}
use Rattle.rel_lexer.specs.Tokens as tokens
use Rattle.rel_grammar.specs.declared.vocabulary.Reserved.{Reserved}
use Rattle.rel_grammar.specs.declared.vocabulary.Helper.{Helper}
use Rattle.rel_grammar.specs.declared.vocabulary.Reserved.TheVariants as the
use Rattle.rel_print.specs.declared.pen.Last.{Last}
use Rattle.rel_print.specs.declared.pen.Last.TheVariants as last
use Rattle.rel_print.specs.declared.pen.Pen.{Pen}
use Rattle.rel_grammar.specs.Shapes.{Kind, sign, reserved, not_of_is, word, number, string, AnyWord, helper, word_spelling, reserved_spelling, helper_spelling, kind_of}
use Rattle.rel_grammar.specs.Spelling.{mark}
use Rattle.rel_print.specs.Pages.{gap, run_together, join_signs, is_equal, is_times, escaped, put, put_words, put_number, put_sign, put_string}
use Rattle.rel_print.proofs.Rewriting.{IsGoodKind, MayFollow, Holds, Adds, kind_list, Spells, spells-same, class, size, Costs, Redone, tok}
use Rattle.rel_print.proofs.Unescaping.{decoded-escaped, no_quotes, utf8-escaped}
use Rattle.rel_grammar.proofs.PlainWords.{IsPlainWord, plain_reserved, plain_helper}
use Rattle.rel_grammar.proofs.WordShapes.{reserved_found, helper_found}

append_none : (l : List Kind) → l ++ [] ≡ l
append_none [] = refl
append_none (x ∷ l) = ap (λ k. x ∷ k) (append_none l)

lexes-append : (ps qs : List Piece) (a b c : List ℕ) → Lexes ps a b → Lexes qs b c → Lexes (ps ++ qs) a c
lexes-append [] qs a b c e h = subst (λ l. Lexes qs l c) (sym e) h
lexes-append (p ∷ ps) qs a b c (more, e, s, l) h = (more, e, s, lexes-append ps qs more b c l h)

-- what may follow a sign
sign_before : (s : Sign) (b : ℕ) (rest : List ℕ) → b ≢ 61 → b ≢ 42 → IsWhole s (b ∷ rest)
sign_before lex.Less b rest h k = h
sign_before lex.Greater b rest h k = h
sign_before lex.Slash b rest h k = k
sign_before _ b rest h k = tt

follows_byte : (l : Last) (b : ℕ) (rest : List ℕ) → is_in_word b ≡ false → is_ascii_digit b ≡ false → b ≢ 61 → b ≢ 42 → MayFollow l (b ∷ rest)
follows_byte last.Word b rest w d h k = w
follows_byte last.Number b rest w d h k = d
follows_byte (last.Sign s) b rest w d h k = sign_before s b rest h k
follows_byte last.Other b rest w d h k = tt

append_nothing : (l : List ℕ) → l ++ [] ≡ l
append_nothing [] = refl
append_nothing (x ∷ l) = ap (λ k. x ∷ k) (append_nothing l)

-- A piece is written behind others, with a blank where one is needed.
put_piece : (pen : Pen) (next : Last) (bytes : List ℕ) (ps : List Piece) (p : Piece) (b : Bool) → run_together pen.last next ≡ b → bytes ≡ bytes_of p
    → ((rest : List ℕ) → MayFollow next rest → Stands p rest)
    → ((rest : List ℕ) → run_together pen.last next ≡ false → MayFollow pen.last (bytes ++ rest))
    → IsGood p → Holds pen ps → Adds (put next bytes pen) ps (kind_list (tokens.kind_of p))
put_piece pen next bytes ps p false e is stands follows good holds = record {
  pieces = p ∷ [];
  holds = λ rest m.
      let same : ((pen.text ++ gap (run_together pen.last next)) ++ bytes) ++ rest ≡ pen.text ++ (bytes ++ rest) =
      ap (λ x. ((pen.text ++ gap x) ++ bytes) ++ rest) e ∙ ap (λ x. (x ++ bytes) ++ rest) (append_nothing pen.text) ∙ append_assoc pen.text bytes rest in
      subst (λ t. Lexes (ps ++ (p ∷ [])) t rest) (sym same)
      (lexes-append ps (p ∷ []) (pen.text ++ (bytes ++ rest)) (bytes ++ rest) rest (holds (bytes ++ rest) (follows rest e)) (rest, ap (λ x. x ++ rest) is, stands rest m, refl));
  good = (good, tt);
  kinds_are = append_none (kind_list (tokens.kind_of p));
}
put_piece pen next bytes ps p true e is stands follows good holds = record {
  pieces = piece.blank 32 ∷ p ∷ [];
  holds = λ rest m.
      let same : ((pen.text ++ gap (run_together pen.last next)) ++ bytes) ++ rest ≡ pen.text ++ (32 ∷ (bytes ++ rest)) =
      ap (λ x. ((pen.text ++ gap x) ++ bytes) ++ rest) e ∙ append_assoc (pen.text ++ (32 ∷ [])) bytes rest ∙ append_assoc pen.text (32 ∷ []) (bytes ++ rest) in
      subst (λ t. Lexes (ps ++ (piece.blank 32 ∷ p ∷ [])) t rest) (sym same)
      (lexes-append ps (piece.blank 32 ∷ p ∷ []) (pen.text ++ (32 ∷ (bytes ++ rest))) (32 ∷ (bytes ++ rest)) rest
      (holds (32 ∷ (bytes ++ rest)) (follows_byte pen.last 32 (bytes ++ rest) refl refl (λ h. omega arith) (λ h. omega arith)))
      (bytes ++ rest, refl, refl, (rest, ap (λ x. x ++ rest) is, stands rest m, refl)));
  good = (tt, (good, tt));
  kinds_are = append_none (kind_list (tokens.kind_of p));
}

word_no_digit : (b : ℕ) → begins_word b ≡ true → is_ascii_digit b ≡ false
word_no_digit b h = grind (arith, nat_tests)

begins_other : (b c : ℕ) → begins_word b ≡ true → begins_word c ≡ false → b ≢ c
begins_other b c h k e = absurd (contradicts (begins_word c) (subst (λ x. begins_word x ≡ true) e h) k)
  where
    contradicts : (x : Bool) → x ≡ true → x ≡ false → ⊥
    contradicts x p q = cc

follows_word : (l : Last) (b : ℕ) (bs : List ℕ) → begins_word b ≡ true → run_together l last.Word ≡ false → MayFollow l (b ∷ bs)
follows_word last.Word b bs h e = cc
follows_word last.Number b bs h e = word_no_digit b h
follows_word (last.Sign s) b bs h e = sign_before s b bs (begins_other b 61 h refl) (begins_other b 42 h refl)
follows_word last.Other b bs h e = tt

pub spell_word : (x : List ℕ) → IsPlainWord x → Spells (put_words x) (kind_of (lexed.Word x) ∷ [])
spell_word [] h = absurd h
spell_word (b ∷ bs) h = λ pen ps holds.
    subst (λ k. Adds (put_words (b ∷ bs) pen) ps (kind_of (lexed.Word k) ∷ [])) h.2
    (put_piece pen last.Word (b ∷ bs) ps (piece.word b bs) (run_together pen.last last.Word) refl refl (λ rest m. (h.0, h.1, m)) (λ rest e. follows_word pen.last b (bs ++ rest) h.0 e) tt holds)

no_equal : (s : Sign) (rest : List ℕ) → is_equal s ≡ false → NotNext 61 (spelling s ++ rest)
no_equal lex.OpenBracket rest h = λ e. omega arith
no_equal lex.CloseBracket rest h = λ e. omega arith
no_equal lex.Semicolon rest h = λ e. omega arith
no_equal lex.Comma rest h = λ e. omega arith
no_equal lex.Plus rest h = λ e. omega arith
no_equal lex.Minus rest h = λ e. omega arith
no_equal lex.Times rest h = λ e. omega arith
no_equal lex.Slash rest h = λ e. omega arith
no_equal lex.Ampersand rest h = λ e. omega arith
no_equal lex.Equal rest h = cc
no_equal lex.NotEqual rest h = λ e. omega arith
no_equal lex.Less rest h = λ e. omega arith
no_equal lex.LessOrEqual rest h = λ e. omega arith
no_equal lex.Greater rest h = λ e. omega arith
no_equal lex.GreaterOrEqual rest h = λ e. omega arith
no_equal lex.Bar rest h = λ e. omega arith

no_times : (s : Sign) (rest : List ℕ) → is_times s ≡ false → NotNext 42 (spelling s ++ rest)
no_times lex.OpenBracket rest h = λ e. omega arith
no_times lex.CloseBracket rest h = λ e. omega arith
no_times lex.Semicolon rest h = λ e. omega arith
no_times lex.Comma rest h = λ e. omega arith
no_times lex.Plus rest h = λ e. omega arith
no_times lex.Minus rest h = λ e. omega arith
no_times lex.Times rest h = cc
no_times lex.Slash rest h = λ e. omega arith
no_times lex.Ampersand rest h = λ e. omega arith
no_times lex.Equal rest h = λ e. omega arith
no_times lex.NotEqual rest h = λ e. omega arith
no_times lex.Less rest h = λ e. omega arith
no_times lex.LessOrEqual rest h = λ e. omega arith
no_times lex.Greater rest h = λ e. omega arith
no_times lex.GreaterOrEqual rest h = λ e. omega arith
no_times lex.Bar rest h = λ e. omega arith

no_word : (s : Sign) (rest : List ℕ) → StopsAt is_in_word (spelling s ++ rest)
no_word lex.OpenBracket rest = refl
no_word lex.CloseBracket rest = refl
no_word lex.Semicolon rest = refl
no_word lex.Comma rest = refl
no_word lex.Plus rest = refl
no_word lex.Minus rest = refl
no_word lex.Times rest = refl
no_word lex.Slash rest = refl
no_word lex.Ampersand rest = refl
no_word lex.Equal rest = refl
no_word lex.NotEqual rest = refl
no_word lex.Less rest = refl
no_word lex.LessOrEqual rest = refl
no_word lex.Greater rest = refl
no_word lex.GreaterOrEqual rest = refl
no_word lex.Bar rest = refl

no_digit : (s : Sign) (rest : List ℕ) → StopsAt is_ascii_digit (spelling s ++ rest)
no_digit lex.OpenBracket rest = refl
no_digit lex.CloseBracket rest = refl
no_digit lex.Semicolon rest = refl
no_digit lex.Comma rest = refl
no_digit lex.Plus rest = refl
no_digit lex.Minus rest = refl
no_digit lex.Times rest = refl
no_digit lex.Slash rest = refl
no_digit lex.Ampersand rest = refl
no_digit lex.Equal rest = refl
no_digit lex.NotEqual rest = refl
no_digit lex.Less rest = refl
no_digit lex.LessOrEqual rest = refl
no_digit lex.Greater rest = refl
no_digit lex.GreaterOrEqual rest = refl
no_digit lex.Bar rest = refl

whole_before : (s t : Sign) (rest : List ℕ) → join_signs s t ≡ false → IsWhole s (spelling t ++ rest)
whole_before lex.Less t rest h = no_equal t rest h
whole_before lex.Greater t rest h = no_equal t rest h
whole_before lex.Slash t rest h = no_times t rest h
whole_before _ t rest h = tt

follows_sign : (l : Last) (s : Sign) (rest : List ℕ) → run_together l (last.Sign s) ≡ false → MayFollow l (spelling s ++ rest)
follows_sign last.Word s rest e = no_word s rest
follows_sign last.Number s rest e = no_digit s rest
follows_sign (last.Sign t) s rest e = whole_before t s rest e
follows_sign last.Other s rest e = tt

pub spell_sign : (s : Sign) → Spells (put_sign s) (sign s ∷ [])
spell_sign s = λ pen ps holds. put_piece pen (last.Sign s) (spelling s) ps (piece.sign s) (run_together pen.last (last.Sign s)) refl refl (λ rest m. m) (λ rest e. follows_sign pen.last s rest e) tt holds

pub numerals : IsNumeralModel (λ ds. Each is_ascii_digit ds) (number_from 0)
numerals = numerals_by_fold _ (search rules) number_from (search rules)

follows_number : (l : Last) (b : ℕ) (bs : List ℕ) → is_ascii_digit b ≡ true → run_together l last.Number ≡ false → MayFollow l (b ∷ bs)
follows_number last.Word b bs h e = cc
follows_number last.Number b bs h e = cc
follows_number (last.Sign s) b bs h e = sign_before s b bs (λ k. digit_other b 61 h refl k) (λ k. digit_other b 42 h refl k)
  where
    contradicts : (x : Bool) → x ≡ true → x ≡ false → ⊥
    contradicts x p q = cc

    digit_other : (b c : ℕ) → is_ascii_digit b ≡ true → is_ascii_digit c ≡ false → b ≢ c
    digit_other b c h k e = contradicts (is_ascii_digit c) (subst (λ x. is_ascii_digit x ≡ true) e h) k
follows_number last.Other b bs h e = tt

number_at : (m : ℕ) → m ≤ 9223372036854775807 → (l : List ℕ) → decimal m ≡ l → Spells (put last.Number l) (number (pos m) ∷ [])
number_at m b [] e =
    let below : m < 2 ^ 64 = omega arith in
    let some : 0 < length (decimal m) = decimal_nonempty m below in
    absurd (omega (arith, some, ap length e))
number_at m b (d ∷ ds) e =
    let below : m < 2 ^ 64 = omega arith in
    let digits : Each is_ascii_digit (d ∷ ds) = subst (λ l. Each is_ascii_digit l) e (digits_decimal numerals m below) in
    let value : number_from 0 (d ∷ ds) ≡ m = sym (ap (number_from 0) e) ∙ digits_value-decimal numerals m below in
    λ pen ps holds.
    subst (λ k. Adds (put last.Number (d ∷ ds) pen) ps (number (pos k) ∷ [])) value
    (put_piece pen last.Number (d ∷ ds) ps (piece.number d ds) (run_together pen.last last.Number) refl refl (λ rest m. (digits.0, digits.1, m)) (λ rest h. follows_number pen.last d (ds ++ rest) digits.0 h) (subst (λ k. k ≤ 9223372036854775807) (sym value) b) holds)

pub spell_number : (n : ℤ) → IsGoodKind (number n) → Spells (put_number n) (number n ∷ [])
spell_number n (m, e, b) = subst (λ k. Spells (put_number k) (number k ∷ [])) (sym e) (number_at m b (decimal m) refl)

pub spell_string : (t : List ℕ) → IsGoodKind (string t) → Spells (put_string t) (string t ∷ [])
spell_string t h = λ pen ps holds.
    subst (λ k. Adds (put_string t pen) ps (string k ∷ [])) (decoded-escaped t)
    (put_piece pen last.Other (34 ∷ (escaped t ++ 34 ∷ [])) ps (piece.string (escaped t)) (run_together pen.last last.Other) refl refl (λ rest m. no_quotes t) (λ rest e. follows_byte pen.last 34 ((escaped t ++ 34 ∷ []) ++ rest) refl refl (λ k. omega arith) (λ k. omega arith)) (utf8-escaped t h, subst IsUtf8 (sym (decoded-escaped t)) h) holds)

pub spell_reserved : (r : Reserved) → Spells (put_words (reserved_spelling r)) (reserved r ∷ [])
spell_reserved r = spells-same (put_words (reserved_spelling r)) (put_words (reserved_spelling r)) _ _ (λ pen. refl) (ap (λ k. k ∷ []) (reserved_found r)) (spell_word (reserved_spelling r) (plain_reserved r))

spell_helper : (h : Helper) → Spells (put_words (helper_spelling h)) (word (helper h) ∷ [])
spell_helper r = spells-same (put_words (helper_spelling r)) (put_words (helper_spelling r)) _ _ (λ pen. refl) (ap (λ k. k ∷ []) (helper_found r)) (spell_word (helper_spelling r) (plain_helper r))

-- One word after another is both, joined by a blank.
pub join_words : (a b : List ℕ) (pen : Pen) → put_words b (put_words a pen) ≡ put_words ((a ++ (32 ∷ [])) ++ b) pen
join_words a b pen =
    let x = pen.text ++ gap (run_together pen.last last.Word) in
    ap (λ (t : List ℕ). record { text = t; last = last.Word }) (append_assoc (x ++ a) (32 ∷ []) b ∙ append_assoc x a ((32 ∷ []) ++ b) ∙ ap (λ l. x ++ l) (sym (append_assoc a (32 ∷ []) b)))

-- how many bytes one token has
costs_put : (next : Last) (bytes : List ℕ) (k : Kind) → class k ≡ next → size k ≡ length bytes → Costs (put next bytes) (k ∷ [])
costs_put next bytes k e h = λ pen.
    let gaps : length (gap (run_together pen.last (class k))) ≡ length (gap (run_together pen.last next)) = ap (λ l. length (gap (run_together pen.last l))) e in
    (sym e, omega (arith, gaps, h, length-append (pen.text ++ gap (run_together pen.last next)) bytes, length-append pen.text (gap (run_together pen.last next))))

pub costs_number : (n : ℤ) → Costs (put_number n) (number n ∷ [])
costs_number n = costs_put last.Number (signed_decimal n) (number n) refl refl

pub costs_string : (t : List ℕ) → Costs (put_string t) (string t ∷ [])
costs_string t = costs_put last.Other (34 ∷ (escaped t ++ 34 ∷ [])) (string t) refl refl

pub costs_reserved : (r : Reserved) → Costs (put_words (reserved_spelling r)) (reserved r ∷ [])
costs_reserved r = costs_put last.Word (reserved_spelling r) (reserved r) refl refl

abbrev pub Token : Kind → Place → (Pen → Pen) → Type 0
Token k p w = Redone {Y = Place} (λ d q. mark d k q ∷ []) (λ q. Unit {0}) (λ d. mark d k p ∷ []) w

pub tok_word : (w : AnyWord) (p : Place) → Token (word w) p (put_words (word_spelling w))
tok_word w p = tok (word w) p (put_words (word_spelling w)) (λ g. spells-same (put_words (word_spelling w)) (put_words (word_spelling w)) _ _ (λ pen. refl) (ap (λ k. k ∷ []) g.1) (spell_word (word_spelling w) g.0)) (costs_put last.Word (word_spelling w) (word w) refl refl)

pub tok_sign : (s : Sign) (p : Place) → Token (sign s) p (put_sign s)
tok_sign s p = tok (sign s) p (put_sign s) (λ g. spell_sign s) (costs_put (last.Sign s) (spelling s) (sign s) refl refl)

pub tok_reserved : (r : Reserved) (p : Place) → Token (reserved r) p (put_words (reserved_spelling r))
tok_reserved r p = tok (reserved r) p (put_words (reserved_spelling r)) (λ g. spell_reserved r) (costs_reserved r)

pub tok_helper : (h : Helper) (p : Place) → Token (word (helper h)) p (put_words (helper_spelling h))
tok_helper h p = tok (word (helper h)) p (put_words (helper_spelling h)) (λ g. spell_helper h) (costs_put last.Word (helper_spelling h) (word (helper h)) refl refl)

pub tok_not : (p : Place) → Token not_of_is p (put_words (codes "not"))
tok_not p = tok not_of_is p (put_words (codes "not")) (λ g. spell_reserved the.Not) (costs_reserved the.Not)
