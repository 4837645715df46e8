use Rattle.std.proofs.Common.{◌≡◌, ◌<◌, ◌+◌, ◌-◌, ℕ, List, ◌∷◌, length, take, drop, sym, ap, subst, ◌∙◌, arith}
use Rattle.std.specs.Str.{IsCharBoundary}
use Rattle.std.proofs.lemmas.Bool.Decides.{nat_tests}
use Rattle.rel_sources.specs.Words.{pieces_by}
use Rattle.rel_sources.proofs.Separated.{pieces-empty, piece-found, piece-last, boundary-found}
use Rattle.rel_sources.proofs.pieces.first_piece.Goals as goal

pub returns-then-is_empty-clause-pieces : goal.returns-then-is_empty-clause-pieces
returns-then-is_empty-clause-pieces c = pieces-empty c.args.separator.now c.args.text.now (grind (arith, nat_tests))

pub returns-in-None-clause-pieces : goal.returns-in-None-clause-pieces
returns-in-None-clause-pieces c =
    let some : 0 < length c.args.separator.now = grind (arith, nat_tests) in
    piece-last c.args.separator.now c.args.text.now some c.in-None.ensures.cases

pub returns-in-Some-clause-pieces : goal.returns-in-Some-clause-pieces
returns-in-Some-clause-pieces c =
    let separator = c.args.separator.now in
    let text = c.args.text.now in
    let some : 0 < length separator = grind (arith, nat_tests) in
    let whole : c.in-Some.place - 0 ≡ c.in-Some.place = omega arith in
    let piece : c.range.result.now ≡ take c.in-Some.place text = c.range.ensures.value ∙ ap (λ n. take n text) whole in
    piece-found separator text c.in-Some.place some c.in-Some.ensures.cases
    ∙ ap (λ (p : List ℕ). p ∷ pieces_by separator (drop (c.in-Some.place + length separator) text)) (sym piece)

pub returns-in-Some-clause-boundary : goal.returns-in-Some-clause-boundary
returns-in-Some-clause-boundary c =
    λ x e.
    let same : c.in-Some.place + length c.args.separator.now ≡ x = cc in
    subst (λ (n : ℕ). IsCharBoundary c.args.text.now n) same (boundary-found c.args.separator.now c.args.text.now c.in-Some.place c.in-Some.ensures.cases)
