use Rattle.std.proofs.Common.{◌≡◌, ◌+◌, ◌++◌, take}
use Rattle.fix_site.specs.Pieces.{relevance_pieces}
use Rattle.fix_site.proofs.piece_list.PieceList.add_relevance.Given as goal

-- the questions so far were added
abbrev pub invariant-loop-question : goal.invariant-loop-question
invariant-loop-question l = record {
  items : l.question-items ≡ l.questions;
  pieces : l.self.pieces.items ≡ l.initial.self.pieces.items ++ relevance_pieces l.initial.self.line (take l.question-index l.question-items);
  line : l.self.line ≡ l.initial.self.line + l.question-index;
}
