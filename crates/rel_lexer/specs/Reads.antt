-- What the functions do that read one piece. Only private functions cite it.
use Rattle.std.specs.Prelude.{◌≡◌, ℕ, Bool, true, List, [], ◌∷◌, ◌++◌, Option, Result, Ok, Err, ⊤, IsUtf8}
use Rattle.rel_lexer.specs.declared.token.TokenKind.{TokenKind}
use Rattle.rel_lexer.specs.declared.piece.Taken.{Taken}
use Rattle.rel_lexer.specs.declared.error.LexError.{LexError}
use Rattle.rel_lexer.specs.declared.error.LexError.TheVariants.{Memory}
use Rattle.rel_lexer.specs.Bytes.{StopsAt, HasNoClose, decoded}
use Rattle.rel_lexer.specs.Pieces.{Piece, string, bytes_of, Stands, Each}
use Rattle.rel_lexer.specs.Tokens.{kind_of, IsGood, IsFault}

-- A good piece begins these bytes; this is the kind of its token, and this is left.
pub record Takes (bytes : List ℕ) (kind : Option TokenKind) (rest : List ℕ) : Type 0 where
  pub piece : Piece
  pub splits : bytes ≡ bytes_of piece ++ rest
  pub stands : Stands piece rest
  pub good : IsGood piece
  pub kind_is : kind ≡ kind_of piece

-- The piece that begins these bytes, at this byte of the text, is a fault.
pub record Faults (at : ℕ) (bytes : List ℕ) (error : LexError) : Type 0 where
  pub piece : Piece
  pub rest : List ℕ
  pub splits : bytes ≡ bytes_of piece ++ rest
  pub stands : Stands piece rest
  pub fault : IsFault at piece error

-- a piece was not read because it is a fault, or for want of memory
abbrev pub Fails : ℕ → List ℕ → LexError → Type 0
Fails at bytes Memory = ⊤
Fails at bytes error = Faults at bytes error

-- what reading the piece answers that begins these bytes, at this byte of the text
abbrev pub Reads : ℕ → List ℕ → Result Taken LexError → Type 0
Reads at bytes (Ok taken) = Takes bytes taken.kind taken.rest.now
Reads at bytes (Err error) = Fails at bytes error

-- a string was not decoded because it is a fault, or for want of memory
abbrev pub FailsString : ℕ → List ℕ → LexError → Type 0
FailsString at raw Memory = ⊤
FailsString at raw error = IsFault at (string raw) error

-- what decoding a string answers that begins at this byte, with these bytes between its quotes
abbrev pub Decodes : ℕ → List ℕ → Result (List ℕ) LexError → Type 0
Decodes at raw (Ok text) = IsUtf8 raw × IsUtf8 (decoded raw) × (text ≡ decoded raw)
Decodes at raw (Err error) = FailsString at raw error

-- the first byte passes the test
abbrev pub Begins : (ℕ → Bool) → List ℕ → Type 0
Begins test [] = ⊥
Begins test (b ∷ bs) = test b ≡ true

-- The bytes are split before the first that fails the test.
pub record SplitsRun (test : ℕ → Bool) (bytes run rest : List ℕ) : Type 0 where
  pub splits : bytes ≡ run ++ rest
  pub passing : Each test run
  pub stops : StopsAt test rest

-- These bytes are left after the first `*/`.
pub record LeavesAfterClose (bytes rest : List ℕ) : Type 0 where
  pub body : List ℕ
  pub splits : bytes ≡ body ++ 42 ∷ 47 ∷ rest
  pub first : HasNoClose body
