-- A text as its pieces, each as long as it can be.
use Rattle.std.specs.Prelude.{◌≡◌, ◌≢◌, ℕ, ◌+◌, Bool, true, false, List, [], ◌∷◌, ◌++◌, length}
use Rattle.std.specs.List.{AllByRecursion}
use Rattle.std.specs.Char.{is_ascii_digit}
use Rattle.rel_lexer.specs.declared.sign.Sign.{Sign}
use Rattle.rel_lexer.specs.Bytes.{is_blank, begins_word, is_in_word, is_no_quote, StopsAt, HasNoClose}
use Rattle.rel_lexer.specs.Signs.{spelling, IsWhole, BeginsNoSign}

-- A blank; what stands in a comment; a word and a number, their first byte apart; what stands in a string; a sign; what
-- follows the `/*` or the quote of a comment or string that isn't closed; a byte that begins none of these.
pub data Piece : Type 0 where
  blank : ℕ → Piece
  comment : List ℕ → Piece
  word : ℕ → List ℕ → Piece
  number : ℕ → List ℕ → Piece
  string : List ℕ → Piece
  sign : Sign → Piece
  open_comment : List ℕ → Piece
  open_string : List ℕ → Piece
  stray : ℕ → Piece

-- the bytes that a piece is
abbrev pub bytes_of : Piece → List ℕ
bytes_of (blank b) = b ∷ []
bytes_of (comment body) = 47 ∷ 42 ∷ (body ++ 42 ∷ 47 ∷ [])
bytes_of (word b bs) = b ∷ bs
bytes_of (number b bs) = b ∷ bs
bytes_of (string raw) = 34 ∷ (raw ++ 34 ∷ [])
bytes_of (sign s) = spelling s
bytes_of (open_comment body) = 47 ∷ 42 ∷ body
bytes_of (open_string raw) = 34 ∷ raw
bytes_of (stray b) = b ∷ []

-- each of these bytes passes the test
abbrev pub Each : (ℕ → Bool) → List ℕ → Type 0
Each test bytes = AllByRecursion (λ b. test b ≡ true) bytes

-- This byte begins no blank, word, number or string, and with the rest no sign, nor therefore a comment.
pub record IsStray (b : ℕ) (rest : List ℕ) : Type 0 where
  pub no_blank : is_blank b ≡ false
  pub no_word : begins_word b ≡ false
  pub no_number : is_ascii_digit b ≡ false
  pub no_string : b ≢ 34
  pub no_sign : BeginsNoSign (b ∷ rest)

-- Before this rest of the text the piece is as long as it can be.
abbrev pub Stands : Piece → List ℕ → Type 0
Stands (blank b) rest = is_blank b ≡ true
Stands (comment body) rest = HasNoClose body
Stands (word b bs) rest = (begins_word b ≡ true) × Each is_in_word bs × StopsAt is_in_word rest
Stands (number b bs) rest = (is_ascii_digit b ≡ true) × Each is_ascii_digit bs × StopsAt is_ascii_digit rest
Stands (string raw) rest = Each is_no_quote raw
Stands (sign s) rest = IsWhole s rest
Stands (open_comment body) rest = HasNoClose body × (rest ≡ [])
Stands (open_string raw) rest = Each is_no_quote raw × (rest ≡ [])
Stands (stray b) rest = IsStray b rest

-- These pieces make the text up to this rest.
abbrev pub Lexes : List Piece → List ℕ → List ℕ → Type 0
Lexes [] text rest = text ≡ rest
Lexes (piece ∷ pieces) text rest =
    (more : List ℕ) × (text ≡ bytes_of piece ++ more) × Stands piece more × Lexes pieces more rest

-- where pieces end that begin at this byte
abbrev pub end_of : ℕ → List Piece → ℕ
end_of at [] = at
end_of at (piece ∷ pieces) = end_of (at + length (bytes_of piece)) pieces
