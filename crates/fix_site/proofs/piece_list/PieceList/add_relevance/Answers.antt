use Rattle.std.proofs.Common.{◌≡◌, ◌<◌, ◌≤◌, ◌+◌, ◌++◌, ◌∷◌, [], ℕ, List, length, sym, ap, ◌∙◌, append-nil, take_all, arith}
use Rattle.fix_site.specs.declared.piece.Piece.TheVariants as piece
use Rattle.fix_site.specs.Pieces.{relevance_pieces}
use Rattle.fix_site.proofs.PiecePlaces.{relevance_step}
use Rattle.fix_site.proofs.piece_list.PieceList.add_relevance.Goals as goal

pub loop-question-init : goal.loop-question-init
loop-question-init c = record { items = c.as_slice-question-items.ensures; pieces = sym (append-nil c.args.self.now.pieces.items); line = omega arith }

pub add_question-requires : goal.add_question-requires
add_question-requires c =
    let items : List (List ℕ) = c.as_slice-question-items.result.now in
    let inside : c.loop-question.question-index < length items = search (arith, c.loop-question-test.true) in
    let count : length items ≡ length c.args.questions.now = ap (length {A = List ℕ}) c.loop-question.invariant.items in
    let line : c.loop-question.self.line ≡ c.args.self.now.line + c.loop-question.question-index = c.loop-question.invariant.line in
    omega (arith, c.requires)

pub loop-question-preserved : goal.loop-question-preserved
loop-question-preserved c =
    let items : List (List ℕ) = c.as_slice-question-items.result.now in
    let inside : c.loop-question.question-index < length items = search (arith, c.loop-question-test.true) in
    let line : c.loop-question.self.line ≡ c.args.self.now.line + c.loop-question.question-index = c.loop-question.invariant.line in
    let next : c.add_question.new.self.line ≡ c.loop-question.self.line + 1 = c.in_ok-add_question.ensures.line in
    record {
      items = c.loop-question.invariant.items;
      pieces = relevance_step c.args.self.now.pieces.items c.loop-question.self.pieces.items c.add_question.new.self.pieces.items c.args.self.now.line c.loop-question.self.line c.loop-question.question-index items c.question-item.result
          inside c.loop-question.invariant.pieces line (c.in_ok-add_question.ensures.pieces ∙ ap (λ (q : List ℕ). c.loop-question.self.pieces.items ++ piece.Relevance c.loop-question.self.line q ∷ []) c.question-item.is);
      line = omega arith;
    }

pub returns : goal.returns
returns c =
    let items : List (List ℕ) = c.as_slice-question-items.result.now in
    let all : length items ≤ c.loop-question.question-index = search (arith, c.loop-question-test.false) in
    let most : c.loop-question.question-index ≤ length items = c.loop-question.auto.question-index-end in
    let count : length items ≡ length c.args.questions.now = ap (length {A = List ℕ}) c.loop-question.invariant.items in
    let line : c.loop-question.self.line ≡ c.args.self.now.line + c.loop-question.question-index = c.loop-question.invariant.line in
    record {
      pieces = c.loop-question.invariant.pieces ∙ ap (λ l. c.args.self.now.pieces.items ++ relevance_pieces c.args.self.now.line l) (take_all c.loop-question.question-index items all ∙ c.loop-question.invariant.items);
      line = omega arith;
    }
