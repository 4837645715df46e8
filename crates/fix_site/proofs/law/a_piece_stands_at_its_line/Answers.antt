use Rattle.fix_site.proofs.PiecePlaces.{pieces_stand}
use Rattle.fix_site.proofs.law.a_piece_stands_at_its_line.Goals as goal

pub returns : goal.returns
returns c = pieces_stand
