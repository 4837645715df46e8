use Rattle.std.proofs.Common.{◌≡◌, take}
use Rattle.fix_site.proofs.piece.Pieces.copy.Given as goal

abbrev pub invariant-loop-piece : goal.invariant-loop-piece
invariant-loop-piece l = l.copies.items ≡ take l.piece-index l.piece-items
