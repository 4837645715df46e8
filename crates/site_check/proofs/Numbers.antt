-- Lines of pieces have numbers of 32 bits.
use Rattle.std.proofs.Common.{◌≡◌, ℕ, ◌+◌, ◌-◌, ◌^◌, ◌≤◌, List, [], ◌∷◌, ◌++◌, length, map, All, ap, arith, length-append}
use Rattle.std.proofs.lemmas.List.{length-map}
use Rattle.std.proofs.lemmas.List.Elements.{All-nil, All-cons, All-head, All-tail}
use Rattle.line_forms.specs.Contents.{content_line}
use Rattle.fix_site.specs.declared.piece.Piece.{Piece}
use Rattle.fix_site.specs.declared.piece.Piece.TheVariants as piece
use Rattle.fix_site.specs.Pieces.{IsPieceOf}
use Rattle.site_check.specs.Judgements.{IsNumbered}

piece_numbered : (lines : List (List ℕ)) → length lines ≤ 2 ^ 32 - 1 → (p : Piece) → IsPieceOf lines p → IsNumbered p
piece_numbered lines few (piece.Relevance line text) h = tt
piece_numbered lines few (piece.Script line script) h =
    let at = h.1 in
    let before = at.0 in
    let after = at.1 in
    let part = map content_line script in
    let whole : length lines ≡ length (before ++ (part ++ after)) = ap (length {A = List ℕ}) at.2 in
    let one : length (before ++ (part ++ after)) ≡ length before + length (part ++ after) = length-append before (part ++ after) in
    let two : length (part ++ after) ≡ length part + length after = length-append part after in
    let three : length part ≡ length script = length-map script content_line in
    let number : line ≡ length before + 1 = at.3 in
    record { counted = omega arith; fits = omega arith }

pub pieces_numbered : (lines : List (List ℕ)) → length lines ≤ 2 ^ 32 - 1 → (ps : List Piece) → All (IsPieceOf lines) ps → All IsNumbered ps
pieces_numbered lines few [] h = All-nil IsNumbered
pieces_numbered lines few (p ∷ ps) h =
    All-cons IsNumbered p ps (piece_numbered lines few p (All-head (IsPieceOf lines) p ps h)) (pieces_numbered lines few ps (All-tail (IsPieceOf lines) p ps h))
