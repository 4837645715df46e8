use Rattle.std.proofs.Common.{Some, subst}
use Rattle.std.specs.declared.option.Option.{Option}
use Rattle.fix_site.specs.Pieces.{pieces_of}
use Rattle.site_check.specs.declared.refusal.PieceRefusal.{PieceRefusal}
use Rattle.site_check.specs.Findings.{JudgesPieces}
use Rattle.server_text.proofs.Refusing.{piece_line}
use Rattle.server_text.proofs.reading.read_published.Goals as goal

pub returns-in-Some : goal.returns-in-Some
returns-in-Some c =
    let P : Option PieceRefusal → Type 0 = λ r. JudgesPieces (pieces_of c.in-Ok.site) r in
    piece_line c.args.text.now c.in-Ok.site c.in-Some.refusal c.refused_line.result c.in-Ok.ensures (subst P c.in-Some.is c.in_ok-refusal.ensures) c.refused_line.ensures
