-- What is printed for the tree of a question reads as the same tree but for places.
use Rattle.std.proofs.Common.{◌≡◌, ◌⊎◌, inl, inr, ℕ, ◌+◌, ◌≤◌, Bool, true, false, cond, List, [], ◌∷◌, ◌++◌, length, map, refl, sym, ap, ◌∙◌, subst, Option, Some, None, arith}
use Rattle.std.proofs.lemmas.List.{map-append, append-nil}
use Rattle.std.proofs.lemmas.Bool.Decides.{nat_tests}
use Rattle.std.specs.List.{AllByRecursion}
use Rattle.std.specs.Char.{to_ascii_lowercase}
use Rattle.std.specs.Str.{bytes_eq}
use Rattle.rel_lexer.specs.declared.place.Place.{Place}
use Rattle.rel_lexer.specs.declared.sign.Sign.{Sign}
use Rattle.rel_lexer.specs.declared.sign.Sign.TheVariants as lex
use Rattle.rel_lexer.specs.declared.token.Token.{Token}
use Rattle.rel_lexer.specs.declared.token.TokenKind.{TokenKind}
use Rattle.rel_lexer.specs.declared.token_list.Tokens.{Tokens}
use Rattle.rel_lexer.specs.Bytes.{begins_word, is_in_word, number_of}
use Rattle.rel_lexer.specs.Signs.{IsWhole}
use Rattle.rel_lexer.specs.Pieces.{Piece, Each, Lexes, Stands}
use Rattle.rel_lexer.specs.Pieces as piece
use Rattle.rel_lexer.specs.Tokens.{IsGood, tokens_of, token_at, place_of}
use Rattle.rel_lexer.specs.Tokens as tokens
use Rattle.rel_grammar.specs.declared.vocabulary.Reserved.{Reserved}
use Rattle.rel_grammar.specs.declared.vocabulary.Reserved.TheVariants as the
use Rattle.rel_print.specs.declared.pen.Last.{Last}
use Rattle.rel_print.specs.declared.pen.Last.TheVariants as last
use Rattle.rel_grammar.specs.Shapes.{Kind, sign, reserved, not_of_is, word, number, string, word_spelling, reserved_spelling, all_reserved, reserved_of, kind_of, kind_after, is_is, shaped_after, all_shaped}
use Rattle.rel_grammar.specs.Spelling.{Mark, shapes_of}
use Rattle.rel_grammar.specs.Sentences.{question_marks}
use Rattle.rel_grammar.specs.Trees.{Plain, question_tree}
use Rattle.rel_print.specs.Pages.{blank_page}
use Rattle.rel_print.specs.Written.{written}
use Rattle.rel_grammar.specs.Answers.{IsTreeOf}
use Rattle.rel_print.specs.Bare.{bare, ReadsAs}
use Rattle.rel_grammar.proofs.WordShapes.{word_tells}
use Rattle.rel_grammar.proofs.PlainWords.{IsPlainWord, after_cases}
use Rattle.rel_print.proofs.Rewriting.{Cut, none, keep, bared, Alone, alone_number, alone_string, alone_it, alone_kind, full, short, untag, kinds, shape_kinds, IsGoodKind, AllGood, all-both, MayFollow, kind_list, piece_kinds, Adds}
use Rattle.rel_print.proofs.Rereading.{RWhole, as_whole, r_collection}

-- Lower case.
lower_begins : (b : ℕ) → begins_word b ≡ true → begins_word (to_ascii_lowercase b) ≡ true
lower_begins b h = grind (arith, nat_tests)

lower_inside : (b : ℕ) → is_in_word b ≡ true → is_in_word (to_ascii_lowercase b) ≡ true
lower_inside b h = grind (arith, nat_tests)

lower_twice : (b : ℕ) → to_ascii_lowercase (to_ascii_lowercase b) ≡ to_ascii_lowercase b
lower_twice b = grind (arith, nat_tests)

lower_each : (bs : List ℕ) → Each is_in_word bs → Each is_in_word (map to_ascii_lowercase bs)
lower_each [] h = tt
lower_each (b ∷ bs) h = (lower_inside b h.0, lower_each bs h.1)

lower_all : (bs : List ℕ) → map to_ascii_lowercase (map to_ascii_lowercase bs) ≡ map to_ascii_lowercase bs
lower_all [] = refl
lower_all (b ∷ bs) = ap (λ x. x ∷ map to_ascii_lowercase (map to_ascii_lowercase bs)) (lower_twice b) ∙ ap (λ l. to_ascii_lowercase b ∷ l) (lower_all bs)

-- A word gives a reserved word or a word of a name.
abbrev pub IsWordy : Kind → Type 0
IsWordy (reserved r) = Unit {0}
IsWordy (word w) = Unit {0}
IsWordy _ = ⊥

wordy_at : (b : Bool) (r : Reserved) (k : Kind) → IsWordy k → IsWordy (cond b (reserved r) k)
wordy_at true r k h = tt
wordy_at false r k h = h

pub wordy : (x : List ℕ) (rs : List Reserved) → IsWordy (reserved_of x rs)
wordy x [] = tt
wordy x (r ∷ rs) = wordy_at (bytes_eq x (reserved_spelling r)) r (reserved_of x rs) (wordy x rs)

good_wordy : (x : List ℕ) (k : Kind) → IsPlainWord x → reserved_of x all_reserved ≡ k → IsWordy k → IsGoodKind k
good_wordy x (reserved r) p e h = tt
good_wordy x (word w) p e h =
    let same : x ≡ word_spelling w = word_tells x all_reserved w e in
    (subst IsPlainWord same p, subst (λ y. reserved_of y all_reserved ≡ word w) same e)
good_wordy x (sign s) p e h = tt
good_wordy x not_of_is p e h = tt
good_wordy x (number n) p e h = absurd h
good_wordy x (string t) p e h = absurd h

-- A token by itself is no `not` of `is`.
abbrev pub IsRaw : Kind → Type 0
IsRaw not_of_is = ⊥
IsRaw _ = Unit {0}

raw_wordy : (k : Kind) → IsWordy k → IsRaw k
raw_wordy (reserved r) h = tt
raw_wordy (word w) h = tt
raw_wordy (sign s) h = tt
raw_wordy not_of_is h = absurd h
raw_wordy (number n) h = tt
raw_wordy (string t) h = tt

good_piece : (p : Piece) (rest : List ℕ) → Stands p rest → IsGood p → AllGood (kind_list (tokens.kind_of p))
good_piece (piece.blank b) rest s g = tt
good_piece (piece.comment b) rest s g = tt
good_piece (piece.word b bs) rest s g =
    let x = map to_ascii_lowercase (b ∷ bs) in
    let plain : IsPlainWord x = (lower_begins b s.0, lower_each bs s.1, lower_all (b ∷ bs)) in
    (good_wordy x (reserved_of x all_reserved) plain refl (wordy x all_reserved), tt)
good_piece (piece.number b bs) rest s g = ((number_of (b ∷ bs), refl, g), tt)
good_piece (piece.string raw) rest s g = (g.1, tt)
good_piece (piece.sign x) rest s g = (tt, tt)
good_piece (piece.open_comment b) rest s g = absurd g
good_piece (piece.open_string b) rest s g = absurd g
good_piece (piece.stray b) rest s g = absurd g

raw_piece : (p : Piece) → AllByRecursion IsRaw (kind_list (tokens.kind_of p))
raw_piece (piece.word b bs) = (raw_wordy _ (wordy (map to_ascii_lowercase (b ∷ bs)) all_reserved), tt)
raw_piece (piece.number b bs) = (tt, tt)
raw_piece (piece.string raw) = (tt, tt)
raw_piece (piece.sign s) = (tt, tt)
raw_piece (piece.blank b) = tt
raw_piece (piece.comment b) = tt
raw_piece (piece.open_comment b) = tt
raw_piece (piece.open_string b) = tt
raw_piece (piece.stray b) = tt

good_pieces : (ps : List Piece) (text rest : List ℕ) → Lexes ps text rest → AllByRecursion IsGood ps → AllGood (piece_kinds ps)
good_pieces [] text rest l g = tt
good_pieces (p ∷ ps) text rest (more, e, s, l) g = all-both IsGoodKind (kind_list (tokens.kind_of p)) (piece_kinds ps) (good_piece p more s g.0) (good_pieces ps more rest l g.1)

pub raw_pieces : (ps : List Piece) → AllByRecursion IsRaw (piece_kinds ps)
raw_pieces [] = tt
raw_pieces (p ∷ ps) = all-both IsRaw (kind_list (tokens.kind_of p)) (piece_kinds ps) (raw_piece p) (raw_pieces ps)

-- the shapes of tokens by themselves
abbrev pub tags : Bool → List Kind → List Kind
tags b [] = []
tags b (k ∷ ks) = kind_after b k ∷ tags (is_is k) ks

shaped_tags : (b : Bool) (ts : List Token) → shape_kinds (shaped_after b ts) ≡ tags b (map (λ t. kind_of t.kind) ts)
shaped_tags b [] = refl
shaped_tags b (t ∷ ts) = ap (λ l. kind_after b (kind_of t.kind) ∷ l) (shaped_tags (is_is (kind_of t.kind)) ts)

one_kind : (o : Option TokenKind) (p : Place) → map (λ (t : Token). kind_of t.kind) (token_at o p) ≡ kind_list o
one_kind None p = refl
one_kind (Some k) p = refl

token_kinds : (at : ℕ) (ps : List Piece) → map (λ (t : Token). kind_of t.kind) (tokens_of at ps) ≡ piece_kinds ps
token_kinds at [] = refl
token_kinds at (p ∷ ps) =
    map-append (λ (t : Token). kind_of t.kind) (token_at (tokens.kind_of p) (place_of at p)) (tokens_of (at + length (piece.bytes_of p)) ps)
    ∙ ap (λ l. l ++ map (λ (t : Token). kind_of t.kind) (tokens_of (at + length (piece.bytes_of p)) ps)) (one_kind (tokens.kind_of p) (place_of at p))
    ∙ ap (λ l. kind_list (tokens.kind_of p) ++ l) (token_kinds (at + length (piece.bytes_of p)) ps)

good_after_case : (a k : Kind) → (a ≡ k) ⊎ ((a ≡ not_of_is) × (k ≡ reserved the.Not)) → IsGoodKind k → IsGoodKind a
good_after_case a k (inl e) g = subst IsGoodKind (sym e) g
good_after_case a k (inr e) g = subst IsGoodKind (sym e.0) tt

good_after : (b : Bool) (k : Kind) → IsGoodKind k → IsGoodKind (kind_after b k)
good_after b k g = good_after_case (kind_after b k) k (after_cases b k) g

good_tags : (b : Bool) (ks : List Kind) → AllGood ks → AllGood (tags b ks)
good_tags b [] g = tt
good_tags b (k ∷ ks) g = (good_after b k g.0, good_tags (is_is k) ks g.1)

untag_raw : (k : Kind) → IsRaw k → untag k ≡ k
untag_raw (sign s) h = refl
untag_raw (reserved r) h = refl
untag_raw not_of_is h = absurd h
untag_raw (word w) h = refl
untag_raw (number n) h = refl
untag_raw (string t) h = refl

untag_after_case : (a k : Kind) → (a ≡ k) ⊎ ((a ≡ not_of_is) × (k ≡ reserved the.Not)) → IsRaw k → untag a ≡ k
untag_after_case a k (inl e) h = ap untag e ∙ untag_raw k h
untag_after_case a k (inr e) h = ap untag e.0 ∙ sym e.1

untag_after : (b : Bool) (k : Kind) → IsRaw k → untag (kind_after b k) ≡ k
untag_after b k h = untag_after_case (kind_after b k) k (after_cases b k) h

pub untag_tags : (b : Bool) (ks : List Kind) → AllByRecursion IsRaw ks → map untag (tags b ks) ≡ ks
untag_tags b [] h = refl
untag_tags b (k ∷ ks) h = ap (λ x. x ∷ map untag (tags (is_is k) ks)) (untag_after b k h.0) ∙ ap (λ l. k ∷ l) (untag_tags (is_is k) ks h.1)

good_short : (c : Cut) → AllGood (full c) → AllGood (short c)
good_short none g = tt
good_short (keep k c) g = (g.0, good_short c g.1)
good_short (bared a c) g = (g.1.0, good_short c g.1.1.1)

alone_after : (b : Bool) (a : Alone) → kind_after b (untag (alone_kind a)) ≡ alone_kind a
alone_after true (alone_number n) = refl
alone_after true (alone_string n) = refl
alone_after true alone_it = refl
alone_after false (alone_number n) = refl
alone_after false (alone_string n) = refl
alone_after false alone_it = refl

alone_is : (a : Alone) → is_is (untag (alone_kind a)) ≡ false
alone_is (alone_number n) = refl
alone_is (alone_string n) = refl
alone_is alone_it = refl

tail_of : (k l : Kind) (a b : List Kind) → k ∷ a ≡ l ∷ b → a ≡ b
tail_of k l a b e = cc

head_of : (k l : Kind) (a b : List Kind) → k ∷ a ≡ l ∷ b → k ≡ l
head_of k l a b e = cc

short_tags : (c : Cut) (b : Bool) → tags b (map untag (full c)) ≡ full c → tags b (map untag (short c)) ≡ short c
short_tags none b e = refl
short_tags (keep k c) b e = ap (λ x. x ∷ tags (is_is (untag k)) (map untag (short c))) (head_of _ _ _ _ e) ∙ ap (λ l. k ∷ l) (short_tags c (is_is (untag k)) (tail_of _ _ _ _ e))
short_tags (bared a c) b e =
    ap (λ x. x ∷ tags (is_is (untag (alone_kind a))) (map untag (short c))) (alone_after b a)
    ∙ ap (λ x. alone_kind a ∷ tags x (map untag (short c))) (alone_is a)
    ∙ ap (λ l. alone_kind a ∷ l) (short_tags c false (tail_of _ _ _ _ (tail_of _ _ _ _ (tail_of _ _ _ _ e))))

shapes_kinds : (ms : List Mark) → shape_kinds (shapes_of ms) ≡ kinds ms
shapes_kinds [] = refl
shapes_kinds (m ∷ ms) = ap (λ l. m.token.kind ∷ l) (shapes_kinds ms)

sign_end : (s : Sign) → IsWhole s []
sign_end lex.Less = tt
sign_end lex.Greater = tt
sign_end lex.Slash = tt
sign_end _ = tt

nothing_follows : (l : Last) → MayFollow l []
nothing_follows last.Word = tt
nothing_follows last.Number = tt
nothing_follows (last.Sign s) = sign_end s
nothing_follows last.Other = tt

-- the kinds of a question's tokens, by its text
pub tagged_marks : (source : List ℕ) (tree : Plain) (h : IsTreeOf source tree) → kinds (question_marks h.question) ≡ tags false (piece_kinds h.lexed.pieces)
tagged_marks source tree h =
    sym (shapes_kinds (question_marks h.question)) ∙ ap shape_kinds (sym h.sentence) ∙ ap (λ l. shape_kinds (all_shaped l)) h.lexed.list
    ∙ shaped_tags false (tokens_of 0 h.lexed.pieces) ∙ ap (tags false) (token_kinds 0 h.lexed.pieces)

pub printed_reads : (source text : List ℕ) (tree : Plain) → IsTreeOf source tree → text ≡ (written tree blank_page).text → length text ≤ 65536 → ReadsAs text tree
printed_reads source text tree h is size =
    let q = h.question in
    let r : RWhole q = as_whole q (r_collection q) in
    let raw = piece_kinds h.lexed.pieces in
    let whole : full r.cut ≡ tags false raw = r.whole 0 ∙ tagged_marks source tree h in
    let good : AllGood (short r.cut) = good_short r.cut (subst AllGood (sym whole) (good_tags false raw (good_pieces h.lexed.pieces source [] h.lexed.lexes h.lexed.good))) in
    let s : Adds (written (question_tree q) blank_page) [] (map untag (short r.cut)) = r.spells good blank_page [] (λ rest m. refl) in
    let page : text ≡ (written (question_tree q) blank_page).text = is ∙ ap (λ t. (written t blank_page).text) h.tree_is in
    let read : Tokens = record { list = tokens_of 0 s.pieces; end = length text } in
    let steady : tags false (map untag (full r.cut)) ≡ full r.cut =
    ap (λ l. tags false (map untag l)) whole ∙ ap (tags false) (untag_tags false raw (raw_pieces h.lexed.pieces)) ∙ sym whole in
    let shapes : shape_kinds (all_shaped read.list) ≡ short r.cut =
    shaped_tags false (tokens_of 0 s.pieces) ∙ ap (tags false) (token_kinds 0 s.pieces ∙ s.kinds_are) ∙ short_tags r.cut false steady in
    let b = r.back (all_shaped read.list) shapes in
    let lexes : Lexes s.pieces text [] =
    subst (λ t. Lexes s.pieces t []) (append-nil (written (question_tree q) blank_page).text ∙ sym page) (s.holds [] (nothing_follows (written (question_tree q) blank_page).last)) in (
      question_tree b.y,
      record {
        tokens = read;
        lexed = record { short = size; pieces = s.pieces; lexes = lexes; good = s.good; list = refl; end = refl };
        question = b.y;
        sentence = sym (b.is 0);
        shallow = b.shallow 0 h.shallow;
        tree_is = refl;
      },
      b.alike.0 ∙ ap bare (sym h.tree_is),
    )
