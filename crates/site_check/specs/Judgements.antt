-- What the parts of a check answer. Only private functions cite these definitions.
use Rattle.std.specs.Prelude.{ℕ, ◌+◌, ◌^◌, ◌≤◌, length, Option, Some, None, ⊤}
use Rattle.fix_site.specs.declared.piece.Piece.{Piece}
use Rattle.fix_site.specs.declared.piece.Piece.TheVariants as piece
use Rattle.site_check.specs.declared.refusal.PieceRefusal.{PieceRefusal}
use Rattle.site_check.specs.Pieces.{IsGoodPiece, IsRefusedPiece}

-- the lines from this one on, so many, have numbers of 32 bits
pub record HasNumbers (first count : ℕ) : Type 0 where
  pub counted : 1 ≤ first
  pub fits : first + count ≤ 2 ^ 32

-- the lines of the piece have numbers of 32 bits
abbrev pub IsNumbered : Piece → Type 0
IsNumbered (piece.Relevance line text) = ⊤
IsNumbered (piece.Script line lines) = HasNumbers line (length lines)

-- the piece is good where nothing is wrong with it, and otherwise refused so
abbrev pub JudgesPiece : Piece → Option PieceRefusal → Type 0
JudgesPiece piece None = IsGoodPiece piece
JudgesPiece piece (Some refusal) = IsRefusedPiece piece refusal
