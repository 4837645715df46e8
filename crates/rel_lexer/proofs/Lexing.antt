-- Lexing what is left of a text, piece by piece.
use Rattle.std.proofs.Common.{◌≡◌, ℕ, ◌+◌, ◌-◌, ◌<◌, ◌≤◌, List, [], ◌∷◌, ◌++◌, length, Option, Some, None, Result, Ok, Err, inl, inr, refl, sym, ap, subst, ◌∙◌, append_assoc, length-append, arith}
use Rattle.std.proofs.lemmas.List.{append-nil}
use Rattle.std.specs.List.{AllByRecursion}
use Rattle.rel_lexer.specs.declared.place.Place.{Place}
use Rattle.rel_lexer.specs.declared.sign.Sign.TheVariants.{OpenBracket, CloseBracket, Semicolon, Comma, Plus, Minus, Times, Slash, Ampersand, Equal, NotEqual, Less, LessOrEqual, Greater, GreaterOrEqual, Bar}
use Rattle.rel_lexer.specs.declared.token.TokenKind.{TokenKind}
use Rattle.rel_lexer.specs.declared.token.Token.{Token}
use Rattle.rel_lexer.specs.declared.token_list.Tokens.{Tokens}
use Rattle.rel_lexer.specs.declared.error.LexError.{LexError}
use Rattle.rel_lexer.specs.declared.error.LexError.TheVariants.{BadByte, BadEscape, UnclosedString, UnclosedComment, TooLong, BadNumber, Memory}
use Rattle.rel_lexer.specs.Pieces.{Piece, blank, comment, word, number, string, sign, open_comment, open_string, stray, bytes_of, Stands, Lexes, end_of}
use Rattle.rel_lexer.specs.Tokens.{kind_of, place_of, token_at, tokens_of, IsGood, IsFault, FirstFault, AreTokens, IsRefused, AreInOrder}
use Rattle.rel_lexer.specs.Reads.{Takes, Faults, Fails}

-- what is left is good pieces, and these are their tokens behind those before
pub record EndsWith (at : ℕ) (before : List Token) (rest : List ℕ) (tokens : Tokens) : Type 0 where
  pub pieces : List Piece
  pub lexes : Lexes pieces rest []
  pub good : AllByRecursion IsGood pieces
  pub list : tokens.list ≡ before ++ tokens_of at pieces
  pub end : tokens.end ≡ at + length rest

-- what is left is good pieces and then a fault
pub record BreaksWith (at : ℕ) (rest : List ℕ) (error : LexError) : Type 0 where
  pub before : List Piece
  pub piece : Piece
  pub more : List ℕ
  pub lexes : Lexes before rest (bytes_of piece ++ more)
  pub good : AllByRecursion IsGood before
  pub stands : Stands piece more
  pub fault : IsFault (end_of at before) piece error

-- the answer for what is left of a text, from a byte on and behind the tokens before
abbrev pub Answers : ℕ → List Token → List ℕ → Result Tokens LexError → Type 0
Answers at before rest (Ok tokens) = EndsWith at before rest tokens
Answers at before rest (Err error) = BreaksWith at rest error

pub more_than_nothing : (piece : Piece) → 0 < length (bytes_of piece)
more_than_nothing (blank b) = omega arith
more_than_nothing (comment body) = omega arith
more_than_nothing (word b bs) = omega arith
more_than_nothing (number b bs) = omega arith
more_than_nothing (string raw) = omega arith
more_than_nothing (sign OpenBracket) = omega arith
more_than_nothing (sign CloseBracket) = omega arith
more_than_nothing (sign Semicolon) = omega arith
more_than_nothing (sign Comma) = omega arith
more_than_nothing (sign Plus) = omega arith
more_than_nothing (sign Minus) = omega arith
more_than_nothing (sign Times) = omega arith
more_than_nothing (sign Slash) = omega arith
more_than_nothing (sign Ampersand) = omega arith
more_than_nothing (sign Equal) = omega arith
more_than_nothing (sign NotEqual) = omega arith
more_than_nothing (sign Less) = omega arith
more_than_nothing (sign LessOrEqual) = omega arith
more_than_nothing (sign Greater) = omega arith
more_than_nothing (sign GreaterOrEqual) = omega arith
more_than_nothing (sign Bar) = omega arith
more_than_nothing (open_comment body) = omega arith
more_than_nothing (open_string raw) = omega arith
more_than_nothing (stray b) = omega arith

-- how long what is left is before and after a piece
pub shorter : (rest left : List ℕ) (kind : Option TokenKind) (t : Takes rest kind left) → length rest ≡ length (bytes_of t.piece) + length left
shorter rest left kind t = ap length t.splits ∙ length-append (bytes_of t.piece) left

pub is_shorter : (rest left : List ℕ) (kind : Option TokenKind) → Takes rest kind left → length left < length rest
is_shorter rest left kind t = let e = shorter rest left kind t in let n = more_than_nothing t.piece in omega arith

step : (at : ℕ) (before : List Token) (rest left : List ℕ) (kind : Option TokenKind) (t : Takes rest kind left) (answer : Result Tokens LexError) → Answers (at + length (bytes_of t.piece)) (before ++ token_at kind (place_of at t.piece)) left answer → Answers at before rest answer
step at before rest left kind t (Ok tokens) f = record {
  pieces = t.piece ∷ f.pieces;
  lexes = (left, t.splits, t.stands, f.lexes);
  good = (t.good, f.good);
  list = f.list ∙ append_assoc before (token_at kind (place_of at t.piece)) (tokens_of (at + length (bytes_of t.piece)) f.pieces)
      ∙ ap (λ k. before ++ (token_at k (place_of at t.piece) ++ tokens_of (at + length (bytes_of t.piece)) f.pieces)) t.kind_is;
  end = let e = f.end in let s = shorter rest left kind t in omega arith;
}
step at before rest left kind t (Err error) f = record {
  before = t.piece ∷ f.before;
  piece = f.piece;
  more = f.more;
  lexes = (left, t.splits, t.stands, f.lexes);
  good = (t.good, f.good);
  stands = f.stands;
  fault = f.fault;
}

-- One piece was taken from what is left, its token put behind those before.
pub took : (at next : ℕ) (before after : List Token) (rest left : List ℕ) (kind : Option TokenKind) (place : Place) → Takes rest kind left → next + length left ≡ at + length rest → place ≡ record { from = at; to = at + (length rest - length left) } → after ≡ before ++ token_at kind place → (answer : Result Tokens LexError) → Answers next after left answer → Answers at before rest answer
took at next before after rest left kind place t n p e answer f =
    let s = shorter rest left kind t in
    let next_is : next ≡ at + length (bytes_of t.piece) = omega arith in
    let place_is : place ≡ place_of at t.piece = p ∙ ap (λ m. record { from = at; to = at + m }) (omega arith) in
    let after_is : after ≡ before ++ token_at kind (place_of at t.piece) = e ∙ ap (λ q. before ++ token_at kind q) place_is in
    step at before rest left kind t answer (subst (λ m. Answers m (before ++ token_at kind (place_of at t.piece)) left answer) next_is (subst (λ l. Answers next l left answer) after_is f))

-- nothing is left
pub done : (at end : ℕ) (before : List Token) (rest : List ℕ) → length rest ≡ 0 → end ≡ at + length rest → Answers at before rest (Ok (record { list = before; end = end }))
done at end before [] n e = record { pieces = []; lexes = refl; good = tt; list = sym (append-nil before); end = e }
done at end before (b ∷ bs) n e = absurd (omega arith)

-- the piece that begins what is left is a fault
broken : (at : ℕ) (before : List Token) (rest : List ℕ) (error : LexError) → Faults at rest error → Answers at before rest (Err error)
broken at before rest error h = record { before = []; piece = h.piece; more = h.rest; lexes = h.splits; good = tt; stands = h.stands; fault = h.fault }

pub are_tokens : (text : List ℕ) (tokens : Tokens) → length text ≤ 65536 → Answers 0 [] text (Ok tokens) → AreTokens text tokens
are_tokens text tokens s h = record { short = s; pieces = h.pieces; lexes = h.lexes; good = h.good; list = h.list; end = let e = h.end in omega arith }

first_fault : (text : List ℕ) (error : LexError) → Answers 0 [] text (Err error) → FirstFault text error
first_fault text error h = record { before = h.before; piece = h.piece; rest = h.more; lexes = h.lexes; good = h.good; stands = h.stands; fault = h.fault }

never_too_long : (at : ℕ) (piece : Piece) → IsFault at piece TooLong → ⊥
never_too_long at (blank b) h = h
never_too_long at (comment body) h = h
never_too_long at (word b bs) h = h
never_too_long at (number b bs) h = let e = h.1 in cc
never_too_long at (string raw) h = elim h [ inl bad ↦ (let e = bad.1.2 in cc) | inr bad ↦ (let e = bad.2 in cc) ]
never_too_long at (sign s) h = h
never_too_long at (open_comment body) h = cc
never_too_long at (open_string raw) h = cc
never_too_long at (stray b) h = cc

-- reading a piece of what is left failed, and so did the whole
pub refused : (text rest : List ℕ) (at : ℕ) (before : List Token) → length text ≤ 65536 → ((answer : Result Tokens LexError) → Answers at before rest answer → Answers 0 [] text answer) → (error : LexError) → Fails at rest error → IsRefused text error
refused text rest at before s goes Memory h = s
refused text rest at before s goes TooLong h = absurd (never_too_long at h.piece h.fault)
refused text rest at before s goes (BadByte p) h = (s, first_fault text (BadByte p) (goes (Err (BadByte p)) (broken at before rest (BadByte p) h)))
refused text rest at before s goes (BadEscape p) h = (s, first_fault text (BadEscape p) (goes (Err (BadEscape p)) (broken at before rest (BadEscape p) h)))
refused text rest at before s goes (UnclosedString p) h = (s, first_fault text (UnclosedString p) (goes (Err (UnclosedString p)) (broken at before rest (UnclosedString p) h)))
refused text rest at before s goes (UnclosedComment p) h = (s, first_fault text (UnclosedComment p) (goes (Err (UnclosedComment p)) (broken at before rest (UnclosedComment p) h)))
refused text rest at before s goes (BadNumber p) h = (s, first_fault text (BadNumber p) (goes (Err (BadNumber p)) (broken at before rest (BadNumber p) h)))

-- an earlier begin
earlier : (a b : ℕ) (tokens : List Token) (end : ℕ) → a ≤ b → AreInOrder b tokens end → AreInOrder a tokens end
earlier a b [] end n h = omega arith
earlier a b (token ∷ tokens) end n h = (let k = h.0 in omega arith, h.1, h.2)

-- one token more, or none, before those in order
ordered_more : (kind : Option TokenKind) (at n : ℕ) (tokens : List Token) (end : ℕ) → 0 < n → AreInOrder (at + n) tokens end → AreInOrder at (token_at kind (record { from = at; to = at + n }) ++ tokens) end
ordered_more None at n tokens end p h = earlier at (at + n) tokens end (omega arith) h
ordered_more (Some kind) at n tokens end p h = (omega arith, omega arith, h)

tokens_in_order : (at : ℕ) (pieces : List Piece) (text : List ℕ) → Lexes pieces text [] → AreInOrder at (tokens_of at pieces) (at + length text)
tokens_in_order at [] text h = omega arith
tokens_in_order at (piece ∷ pieces) text h =
    let len = ap length h.1 ∙ length-append (bytes_of piece) h.0 in
    let end : at + length (bytes_of piece) + length h.0 ≡ at + length text = omega arith in
    ordered_more (kind_of piece) at (length (bytes_of piece)) (tokens_of (at + length (bytes_of piece)) pieces) (at + length text) (more_than_nothing piece)
    (subst (λ n. AreInOrder (at + length (bytes_of piece)) (tokens_of (at + length (bytes_of piece)) pieces) n) end (tokens_in_order (at + length (bytes_of piece)) pieces h.0 h.3))

pub are_in_order : (text : List ℕ) (tokens : Tokens) → AreTokens text tokens → AreInOrder 0 tokens.list tokens.end
are_in_order text tokens h =
    let end : 0 + length text ≡ tokens.end = (let e = h.end in omega arith) in
    subst (λ l. AreInOrder 0 l tokens.end) (sym h.list) (subst (λ n. AreInOrder 0 (tokens_of 0 h.pieces) n) end (tokens_in_order 0 h.pieces text h.lexes))

-- before the first piece
pub begin : (text : List ℕ) (list : List Token) → list ≡ [] → (answer : Result Tokens LexError) → Answers (length text - length text) list text answer → Answers 0 [] text answer
begin text list e answer h =
    let zero : length text - length text ≡ 0 = omega arith in
    subst (λ n. Answers n [] text answer) zero (subst (λ l. Answers (length text - length text) l text answer) e h)
