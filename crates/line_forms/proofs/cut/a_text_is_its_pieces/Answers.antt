use Rattle.line_forms.proofs.Pieces.{join-pieces, pieces-some, pieces-lack, pieces-cut, pieces-none, pieces-join}
use Rattle.line_forms.proofs.cut.a_text_is_its_pieces.Goals as goal

pub returns-clause-joined : goal.returns-clause-joined
returns-clause-joined c = join-pieces

pub returns-clause-some : goal.returns-clause-some
returns-clause-some c = pieces-some

pub returns-clause-lack : goal.returns-clause-lack
returns-clause-lack c = pieces-lack

pub returns-clause-cut : goal.returns-clause-cut
returns-clause-cut c = pieces-cut

pub returns-clause-none : goal.returns-clause-none
returns-clause-none c = pieces-none

pub returns-clause-parts : goal.returns-clause-parts
returns-clause-parts c = pieces-join
