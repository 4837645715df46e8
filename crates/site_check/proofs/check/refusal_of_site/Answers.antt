use Rattle.std.proofs.Common.{◌≡◌, List, All, subst, sym, ◌∙◌}
use Rattle.fix_site.specs.declared.piece.Piece.{Piece}
use Rattle.fix_site.specs.Pieces.{pieces_of}
use Rattle.fix_site.specs.Sites.{site_lines}
use Rattle.site_check.specs.Judgements.{IsNumbered}
use Rattle.site_check.proofs.Numbers.{pieces_numbered}
use Rattle.site_check.proofs.check.refusal_of_site.Goals as goal

pub first_refusal-requires : goal.first_refusal-requires
first_refusal-requires c =
    let site = c.args.site.now in
    let P : List Piece → Type 0 = All IsNumbered in
    let are : c.as_slice.result.now ≡ pieces_of site = c.as_slice.ensures ∙ c.in_ok-pieces.ensures in
    subst P (sym are) (pieces_numbered (site_lines site) c.requires.lines (pieces_of site) (c.a_piece_stands_at_its_line.ensures site))
