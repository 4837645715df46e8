-- What is printed is no longer than a text that has the tree.
use Rattle.std.proofs.Common.{◌≡◌, ℕ, ◌+◌, ◌≤◌, ◌<◌, pos, Bool, true, false, List, [], ◌∷◌, ◌++◌, length, map, refl, sym, ap, ◌∙◌, subst, decimal, length-append, arith}
use Rattle.std.proofs.lemmas.List.{length-map}
use Rattle.std.proofs.lemmas.Bool.Decides.{nat_tests}
use Rattle.std.proofs.lemmas.Str.Parse.{digits_value_short}
use Rattle.std.proofs.lemmas.Fmt.{length-decimal-le}
use Rattle.std.specs.List.{AllByRecursion}
use Rattle.std.specs.Char.{is_ascii_digit, to_ascii_lowercase}
use Rattle.rel_lexer.specs.declared.sign.Sign.{Sign}
use Rattle.rel_lexer.specs.declared.sign.Sign.TheVariants as lex
use Rattle.rel_lexer.specs.Bytes.{begins_word, is_in_word, number_of, decoded, NotNext}
use Rattle.rel_lexer.specs.Signs.{spelling, IsWhole}
use Rattle.rel_lexer.specs.Pieces.{Piece, Each, Lexes, bytes_of}
use Rattle.rel_lexer.specs.Pieces as piece
use Rattle.rel_lexer.specs.Tokens.{IsGood}
use Rattle.rel_grammar.specs.Shapes.{Kind, sign, reserved, not_of_is, word, number, string, all_reserved, reserved_of}
use Rattle.rel_grammar.proofs.WordShapes.{word_tells, reserved_tells}
use Rattle.rel_print.specs.declared.pen.Last.{Last}
use Rattle.rel_print.specs.declared.pen.Last.TheVariants as last
use Rattle.rel_print.specs.Pages.{gap, run_together, join_signs, is_equal, is_times, escaped}
use Rattle.rel_print.proofs.Rewriting.{Cut, none, keep, bared, alone_kind, full, short, untag, MayFollow, piece_kinds, class, size, cost}
use Rattle.rel_print.proofs.Spelled.{numerals}
use Rattle.rel_print.proofs.PrintedReads.{IsWordy, wordy}
use Rattle.rel_print.proofs.Shortest.{shortest}

gap_small : (b : Bool) → length (gap b) ≤ 1
gap_small true = omega arith
gap_small false = omega arith

-- What stands before costs one blank at most.
cost_any : (l m : Last) (ks : List Kind) → cost l ks ≤ cost m ks + 1
cost_any l m [] = omega arith
cost_any l m (k ∷ ks) = omega (arith, gap_small (run_together l (class k)))

short_cost : (c : Cut) (l : Last) → cost l (map untag (short c)) ≤ cost l (map untag (full c))
short_cost none l = omega arith
short_cost (keep k c) l = omega (arith, short_cost c (class (untag k)))
short_cost (bared a c) l =
    let m = class (untag (alone_kind a)) in
    omega (arith, gap_small (run_together l m), cost_any m (last.Sign lex.CloseBracket) (map untag (short c)), short_cost c (last.Sign lex.CloseBracket))

class_wordy : (k : Kind) → IsWordy k → class k ≡ last.Word
class_wordy (reserved r) h = refl
class_wordy (word w) h = refl
class_wordy (sign s) h = absurd h
class_wordy not_of_is h = absurd h
class_wordy (number n) h = absurd h
class_wordy (string t) h = absurd h

size_wordy : (x : List ℕ) (k : Kind) → reserved_of x all_reserved ≡ k → IsWordy k → size k ≡ length x
size_wordy x (reserved r) e h = ap length (sym (reserved_tells x all_reserved r e))
size_wordy x (word w) e h = ap length (sym (word_tells x all_reserved w e))
size_wordy x (sign s) e h = absurd h
size_wordy x not_of_is e h = absurd h
size_wordy x (number n) e h = absurd h
size_wordy x (string t) e h = absurd h

begins_inside : (b : ℕ) → begins_word b ≡ true → is_in_word b ≡ true
begins_inside b h = grind (arith, nat_tests)

digit_inside : (b : ℕ) → is_ascii_digit b ≡ true → is_in_word b ≡ true
digit_inside b h = grind (arith, nat_tests)

never : (x : Bool) → x ≡ true → x ≡ false → ⊥
never x p q = cc

-- What stood without a blank in a text needs none.
no_gap_word : (l : Last) (b : ℕ) (t : List ℕ) → MayFollow l (b ∷ t) → begins_word b ≡ true → run_together l last.Word ≡ false
no_gap_word last.Word b t m h = absurd (never (is_in_word b) (begins_inside b h) m)
no_gap_word last.Number b t m h = refl
no_gap_word (last.Sign s) b t m h = refl
no_gap_word last.Other b t m h = refl

no_gap_number : (l : Last) (b : ℕ) (t : List ℕ) → MayFollow l (b ∷ t) → is_ascii_digit b ≡ true → run_together l last.Number ≡ false
no_gap_number last.Word b t m h = absurd (never (is_in_word b) (digit_inside b h) m)
no_gap_number last.Number b t m h = absurd (never (is_ascii_digit b) h m)
no_gap_number (last.Sign s) b t m h = refl
no_gap_number last.Other b t m h = refl

no_gap_other : (l : Last) → run_together l last.Other ≡ false
no_gap_other last.Word = refl
no_gap_other last.Number = refl
no_gap_other (last.Sign s) = refl
no_gap_other last.Other = refl

not_equal : (s : Sign) (t : List ℕ) → NotNext 61 (spelling s ++ t) → is_equal s ≡ false
not_equal lex.Equal t h = absurd (h refl)
not_equal _ t h = refl

not_times : (s : Sign) (t : List ℕ) → NotNext 42 (spelling s ++ t) → is_times s ≡ false
not_times lex.Times t h = absurd (h refl)
not_times _ t h = refl

no_join : (s u : Sign) (t : List ℕ) → IsWhole s (spelling u ++ t) → join_signs s u ≡ false
no_join lex.Less u t h = not_equal u t h
no_join lex.Greater u t h = not_equal u t h
no_join lex.Slash u t h = not_times u t h
no_join _ u t h = refl

no_gap_sign : (l : Last) (s : Sign) (t : List ℕ) → MayFollow l (spelling s ++ t) → run_together l (last.Sign s) ≡ false
no_gap_sign last.Word s t m = refl
no_gap_sign last.Number s t m = refl
no_gap_sign (last.Sign u) s t m = no_join u s t m
no_gap_sign last.Other s t m = refl

token_step : (l m : Last) (k : Kind) (ks : List Kind) (bytes more rest text : ℕ) → class k ≡ m → run_together l m ≡ false → size k ≤ bytes → cost m ks + rest ≤ more → text ≡ bytes + more → cost l (k ∷ ks) + rest ≤ text
token_step l m k ks bytes more rest text e g s c t =
    let none_needed : length (gap (run_together l (class k))) ≡ 0 = ap (λ x. length (gap (run_together l x))) e ∙ ap (λ b. length (gap b)) g in
    let after : cost (class k) ks ≡ cost m ks = ap (λ x. cost x ks) e in
    omega (arith, none_needed, after, s, c, t)

blank_step : (l : Last) (ks : List Kind) (bytes more rest text : ℕ) → 0 < bytes → cost last.Other ks + rest ≤ more → text ≡ bytes + more → cost l ks + rest ≤ text
blank_step l ks bytes more rest text b c t = omega (arith, cost_any l last.Other ks)

digits_size : (ds : List ℕ) → 0 < length ds → Each is_ascii_digit ds → number_of ds ≤ 9223372036854775807 → length (decimal (number_of ds)) ≤ length ds
digits_size ds some digits fits =
    length-decimal-le (length ds) (number_of ds) some (digits_value_short numerals ds (length ds) digits (omega arith)) (omega arith)

string_size : (raw : List ℕ) → length (escaped (decoded raw)) ≤ length raw → length (34 ∷ (escaped (decoded raw) ++ 34 ∷ [])) ≤ length (34 ∷ (raw ++ 34 ∷ []))
string_size raw h = omega (arith, length-append (escaped (decoded raw)) (34 ∷ []), length-append raw (34 ∷ []))

pieces_cost : (l : Last) (ps : List Piece) (text rest : List ℕ) → Lexes ps text rest → AllByRecursion IsGood ps → MayFollow l text → cost l (piece_kinds ps) + length rest ≤ length text
pieces_cost l [] text rest e g m = omega (arith, ap length e)
pieces_cost l (piece.blank b ∷ ps) text rest (more, e, s, h) g m =
    blank_step l (piece_kinds ps) 1 (length more) (length rest) (length text) (omega arith) (pieces_cost last.Other ps more rest h g.1 tt) (ap length e ∙ omega arith)
pieces_cost l (piece.comment body ∷ ps) text rest (more, e, s, h) g m =
    blank_step l (piece_kinds ps) (length (bytes_of (piece.comment body))) (length more) (length rest) (length text) (omega arith) (pieces_cost last.Other ps more rest h g.1 tt) (ap length e ∙ length-append (bytes_of (piece.comment body)) more)
pieces_cost l (piece.word b bs ∷ ps) text rest (more, e, s, h) g m =
    let x = map to_ascii_lowercase (b ∷ bs) in
    let w = wordy x all_reserved in
    token_step l last.Word (reserved_of x all_reserved) (piece_kinds ps) (length (b ∷ bs)) (length more) (length rest) (length text)
    (class_wordy (reserved_of x all_reserved) w)
    (no_gap_word l b (bs ++ more) (subst (MayFollow l) e m) s.0)
    (omega (arith, size_wordy x (reserved_of x all_reserved) refl w, length-map (b ∷ bs) to_ascii_lowercase))
    (pieces_cost last.Word ps more rest h g.1 s.2)
    (ap length e ∙ length-append (b ∷ bs) more)
pieces_cost l (piece.number b bs ∷ ps) text rest (more, e, s, h) g m =
    token_step l last.Number (number (pos (number_of (b ∷ bs)))) (piece_kinds ps) (length (b ∷ bs)) (length more) (length rest) (length text)
    refl
    (no_gap_number l b (bs ++ more) (subst (MayFollow l) e m) s.0)
    (digits_size (b ∷ bs) (omega arith) (s.0, s.1) g.0)
    (pieces_cost last.Number ps more rest h g.1 s.2)
    (ap length e ∙ length-append (b ∷ bs) more)
pieces_cost l (piece.string raw ∷ ps) text rest (more, e, s, h) g m =
    token_step l last.Other (string (decoded raw)) (piece_kinds ps) (length (34 ∷ (raw ++ 34 ∷ []))) (length more) (length rest) (length text)
    refl
    (no_gap_other l)
    (string_size raw (shortest raw s))
    (pieces_cost last.Other ps more rest h g.1 tt)
    (ap length e ∙ length-append (34 ∷ (raw ++ 34 ∷ [])) more)
pieces_cost l (piece.sign u ∷ ps) text rest (more, e, s, h) g m =
    token_step l (last.Sign u) (sign u) (piece_kinds ps) (length (spelling u)) (length more) (length rest) (length text)
    refl
    (no_gap_sign l u more (subst (MayFollow l) e m))
    (omega arith)
    (pieces_cost (last.Sign u) ps more rest h g.1 s)
    (ap length e ∙ length-append (spelling u) more)
pieces_cost l (piece.open_comment b ∷ ps) text rest h g m = absurd g.0
pieces_cost l (piece.open_string b ∷ ps) text rest h g m = absurd g.0
pieces_cost l (piece.stray b ∷ ps) text rest h g m = absurd g.0

-- The needed tokens cost no more than the text has bytes.
pub fits : (source : List ℕ) (ps : List Piece) (c : Cut) → Lexes ps source [] → AllByRecursion IsGood ps → map untag (full c) ≡ piece_kinds ps → cost last.Other (map untag (short c)) ≤ length source
fits source ps c h g e =
    omega (arith, short_cost c last.Other, ap (cost last.Other) e, pieces_cost last.Other ps source [] h g tt)
