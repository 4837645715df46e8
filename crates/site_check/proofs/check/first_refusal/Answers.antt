use Rattle.std.proofs.Common.{List, All, Option, subst}
use Rattle.std.proofs.lemmas.List.{take_all}
use Rattle.fix_site.specs.declared.piece.Piece.{Piece}
use Rattle.site_check.specs.declared.refusal.PieceRefusal.{PieceRefusal}
use Rattle.site_check.specs.Pieces.{IsGoodPiece, IsRefusedPiece}
use Rattle.site_check.specs.Judgements.{JudgesPiece}
use Rattle.site_check.proofs.Judging.{first_is_refused, good_more}
use Rattle.site_check.proofs.check.first_refusal.Goals as goal

pub returns-in-Some : goal.returns-in-Some
returns-in-Some c =
    let P : Piece → Type 0 = λ piece. IsRefusedPiece piece c.in-Some.refusal in
    let Q : Option PieceRefusal → Type 0 = λ answer. JudgesPiece c.piece-item.result answer in
    first_is_refused c.args.pieces.now c.loop-piece.piece-index c.piece-item.result c.in-Some.refusal c.loop-piece-test.true c.loop-piece.invariant
    (subst P c.piece-item.is (subst Q c.in-Some.is c.in_ok-refusal.ensures))

pub loop-piece-preserved : goal.loop-piece-preserved
loop-piece-preserved c =
    let Q : Option PieceRefusal → Type 0 = λ answer. JudgesPiece c.piece-item.result answer in
    good_more c.args.pieces.now c.loop-piece.piece-index c.piece-item.result c.loop-piece-test.true c.loop-piece.invariant
    (subst IsGoodPiece c.piece-item.is (subst Q c.in_default.is c.in_ok-refusal.ensures))

pub returns : goal.returns
returns c = let P : List Piece → Type 0 = All IsGoodPiece in subst P (take_all c.loop-piece.piece-index c.args.pieces.now c.loop-piece-test.false) c.loop-piece.invariant
