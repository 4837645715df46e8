-- What a piece is refused for, and which of several pieces.
use Rattle.std.proofs.Common.{◌≡◌, ℕ, ◌<◌, suc, List, [], ◌∷◌, length, take, drop, get_or, All, Some, Err, refl, sym, subst, ◌+◌}
use Rattle.std.proofs.Math.Seq.{split_at}
use Rattle.std.proofs.lemmas.List.{take_more}
use Rattle.std.proofs.lemmas.Option.{same_Some}
use Rattle.std.proofs.lemmas.List.Elements.{All-nil, All-cons, All-append}
use Rattle.rel_lexer.specs.declared.place.Place.{Place}
use Rattle.rel_types.specs.Plans.{PlainNode}
use Rattle.rel_nodes.specs.Spans.{span_of_node}
use Rattle.rel_trace.specs.declared.kind.RelKind.{RelKind}
use Rattle.rel_trace.specs.declared.kind.RelKind.TheVariants.{NotDefined}
use Rattle.rel_eval.specs.declared.refusal.Located.{Located}
use Rattle.rel_eval.specs.declared.refusal.Refusal.{Refusal}
use Rattle.rel_eval.specs.declared.refusal.Refusal.TheVariants as refusals
use Rattle.rel_eval.specs.Answers.{Prepares}
use Rattle.rel_eval.specs.Questions.{IsPlanOf, question, refused, undefined}
use Rattle.rel_eval.specs.Refusals.{located}
use Rattle.fix_site.specs.declared.piece.Piece.{Piece}
use Rattle.site_check.specs.declared.refusal.PieceRefusal.{PieceRefusal}
use Rattle.site_check.specs.Pieces.{IsNoTruth, IsGoodPiece, IsRefusedPiece, IsWrongQuestion}
use Rattle.site_check.specs.Findings.{FirstRefused}

-- what a text is refused for is what is wrong with it
pub located_is_judged : (text : List ℕ) (refusal : Refusal) (found : Located) → Some found ≡ located refusal → Prepares text (Err refusal) → IsWrongQuestion text found.kind found.place
located_is_judged text (refusals.At kind place) found is h =
    let same : Located = record { kind = kind; place = place } in
    subst (λ (x : Located). IsWrongQuestion text x.kind x.place) (sym (same_Some found same is)) (refused kind place, h, (refl, refl))
located_is_judged text (refusals.NotDefined place words) found is h =
    let same : Located = record { kind = NotDefined; place = place } in
    subst (λ (x : Located). IsWrongQuestion text x.kind x.place) (sym (same_Some found same is)) (undefined place words, h, (refl, refl))
located_is_judged text refusals.Memory found is h = absurd (cc)

pub no_truth_is_judged : (text : List ℕ) (plan : PlainNode) (kind : RelKind) (place : Place) → IsPlanOf text plan → IsNoTruth plan kind → place ≡ span_of_node plan → IsWrongQuestion text kind place
no_truth_is_judged text plan kind place h wrong at = (question plan, h, (wrong, at))

-- one more good piece
pub good_more : (pieces : List Piece) (i : ℕ) (piece : Piece) → i < length pieces → All IsGoodPiece (take i pieces) → IsGoodPiece (get_or pieces i piece) → All IsGoodPiece (take (i + 1) pieces)
good_more pieces i piece inside good one =
    let P : List Piece → Type 0 = All IsGoodPiece in
    subst P (sym (take_more pieces i piece inside))
    (All-append IsGoodPiece (take i pieces) (get_or pieces i piece ∷ []) good (All-cons IsGoodPiece (get_or pieces i piece) [] one (All-nil IsGoodPiece)))

-- the first of some pieces that is refused
pub first_is_refused : (pieces : List Piece) (i : ℕ) (piece : Piece) (why : PieceRefusal) → i < length pieces → All IsGoodPiece (take i pieces) → IsRefusedPiece (get_or pieces i piece) why → FirstRefused pieces why
first_is_refused pieces i piece why inside good wrong = record {
  before = take i pieces;
  piece = get_or pieces i piece;
  behind = drop (suc i) pieces;
  splits = split_at pieces i piece inside;
  good = good;
  wrong = wrong;
}
