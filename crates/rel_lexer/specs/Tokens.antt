-- The tokens of a text, or its first fault.
use Rattle.std.specs.Prelude.{◌≡◌, ℕ, ◌+◌, ◌<◌, ◌≤◌, pos, List, [], ◌∷◌, ◌++◌, length, map, Option, None, Some, Result, Ok, Err, ⊤, ◌⊎◌, IsUtf8}
use Rattle.std.specs.List.{AllByRecursion}
use Rattle.std.specs.Char.{to_ascii_lowercase}
use Rattle.std.specs.Str.{IsValidUpTo}
use Rattle.rel_lexer.specs.declared.place.Place.{Place}
use Rattle.rel_lexer.specs.declared.token.TokenKind.{TokenKind}
use Rattle.rel_lexer.specs.declared.token.TokenKind.TheVariants as kind
use Rattle.rel_lexer.specs.declared.token.Token.{Token}
use Rattle.rel_lexer.specs.declared.token_list.Tokens.{Tokens}
use Rattle.rel_lexer.specs.declared.error.LexError.{LexError}
use Rattle.rel_lexer.specs.declared.error.LexError.TheVariants.{BadByte, BadEscape, UnclosedString, UnclosedComment, TooLong, BadNumber, Memory}
use Rattle.rel_lexer.specs.Bytes.{number_of, decoded}
use Rattle.rel_lexer.specs.Pieces.{Piece, word, number, string, sign, open_comment, open_string, stray, bytes_of, Stands, Lexes, end_of}

-- the kind of token that a piece gives, if it gives one: a word in lower case, a number by its value, a string decoded
abbrev pub kind_of : Piece → Option TokenKind
kind_of (word b bs) = Some (kind.Word (map to_ascii_lowercase (b ∷ bs)))
kind_of (number b bs) = Some (kind.Number (pos (number_of (b ∷ bs))))
kind_of (string raw) = Some (kind.Text (decoded raw))
kind_of (sign s) = Some (kind.Sign s)
kind_of _ = None

-- the place of a piece that begins at this byte
abbrev pub place_of : ℕ → Piece → Place
place_of at piece = record { from = at; to = at + length (bytes_of piece) }

-- the tokens of a kind, if there is one, at a place
abbrev pub token_at : Option TokenKind → Place → List Token
token_at None place = []
token_at (Some kind) place = record { kind = kind; place = place } ∷ []

-- the tokens of pieces that begin at this byte
abbrev pub tokens_of : ℕ → List Piece → List Token
tokens_of at [] = []
tokens_of at (piece ∷ pieces) =
    token_at (kind_of piece) (place_of at piece) ++ tokens_of (at + length (bytes_of piece)) pieces

-- A number is at most the greatest, a string is text before and after decoding, and a piece is closed and no stray byte.
abbrev pub IsGood : Piece → Type 0
IsGood (number b bs) = number_of (b ∷ bs) ≤ 9223372036854775807
IsGood (string raw) = IsUtf8 raw × IsUtf8 (decoded raw)
IsGood (open_comment body) = ⊥
IsGood (open_string raw) = ⊥
IsGood (stray b) = ⊥
IsGood _ = ⊤

-- the place of one byte
abbrev pub byte_at : ℕ → Place
byte_at at = record { from = at; to = at + 1 }

-- What stands between the quotes of a string is no text: the fault is at the first byte after its longest front that is.
abbrev pub IsBadByte : ℕ → List ℕ → LexError → Type 0
IsBadByte at raw error =
    ¬ (IsUtf8 raw) × ((n : ℕ) × IsValidUpTo raw n × (error ≡ BadByte (byte_at (at + 1 + n))))

-- It is text, but decoded it is none: the fault is the whole string.
abbrev pub IsBadEscape : ℕ → List ℕ → LexError → Type 0
IsBadEscape at raw error =
    IsUtf8 raw × ¬ (IsUtf8 (decoded raw)) × (error ≡ BadEscape (place_of at (string raw)))

-- why a piece that begins at this byte is a fault
abbrev pub IsFault : ℕ → Piece → LexError → Type 0
IsFault at (number b bs) error =
    (9223372036854775807 < number_of (b ∷ bs)) × (error ≡ BadNumber (place_of at (number b bs)))
IsFault at (string raw) error = IsBadByte at raw error ⊎ IsBadEscape at raw error
IsFault at (open_comment body) error = error ≡ UnclosedComment (place_of at (open_comment body))
IsFault at (open_string raw) error = error ≡ UnclosedString (place_of at (open_string raw))
IsFault at (stray b) error = error ≡ BadByte (place_of at (stray b))
IsFault at _ error = ⊥

-- The text is these good pieces, and then, at a byte, the first that is a fault.
pub record FirstFault (text : List ℕ) (error : LexError) : Type 0 where
  pub before : List Piece
  pub piece : Piece
  pub rest : List ℕ
  pub lexes : Lexes before text (bytes_of piece ++ rest)
  pub good : AllByRecursion IsGood before
  pub stands : Stands piece rest
  pub fault : IsFault (end_of 0 before) piece error

-- The text is good pieces, and these are their tokens.
pub record AreTokens (text : List ℕ) (tokens : Tokens) : Type 0 where
  pub short : length text ≤ 65536
  pub pieces : List Piece
  pub lexes : Lexes pieces text []
  pub good : AllByRecursion IsGood pieces
  pub list : tokens.list ≡ tokens_of 0 pieces
  pub end : tokens.end ≡ length text

-- when each refusal comes; want of memory may come for any text that isn't too long
abbrev pub IsRefused : List ℕ → LexError → Type 0
IsRefused text TooLong = 65536 < length text
IsRefused text Memory = length text ≤ 65536
IsRefused text error = (length text ≤ 65536) × FirstFault text error

-- the tokens of a text, or its refusal
abbrev pub Lexed : List ℕ → Result Tokens LexError → Type 0
Lexed text (Ok tokens) = AreTokens text tokens
Lexed text (Err error) = IsRefused text error

-- Each token begins where the one before ends, or later, ends behind its begin, and the last ends by this end.
abbrev pub AreInOrder : ℕ → List Token → ℕ → Type 0
AreInOrder from [] end = from ≤ end
AreInOrder from (token ∷ tokens) end =
    (from ≤ token.place.from) × (token.place.from < token.place.to) × AreInOrder token.place.to tokens end
