use Rattle.line_forms.proofs.BadLines.{first_bad_line-one, first_bad_line-none}
use Rattle.line_forms.proofs.bad_line.one_first_bad_line.Goals as goal

pub returns-clause-one : goal.returns-clause-one
returns-clause-one g c = first_bad_line-one g.F.LineForm.are_good

pub returns-clause-none : goal.returns-clause-none
returns-clause-none g c = first_bad_line-none g.F.LineForm.are_good
