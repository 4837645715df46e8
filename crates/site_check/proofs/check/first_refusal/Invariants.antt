use Rattle.std.proofs.Common.{All, take}
use Rattle.site_check.specs.Pieces.{IsGoodPiece}
use Rattle.site_check.proofs.check.first_refusal.Given as goal

abbrev pub invariant-loop-piece : goal.invariant-loop-piece
invariant-loop-piece l = All IsGoodPiece (take l.piece-index l.pieces)
