use Rattle.line_forms.proofs.LineLemmas.{lines_of-lines_text, unended_of-lines_text}
use Rattle.line_forms.proofs.lines.lines_are_read_again.Goals as goal

pub returns-clause-lines : goal.returns-clause-lines
returns-clause-lines c = lines_of-lines_text

pub returns-clause-unended : goal.returns-clause-unended
returns-clause-unended c = unended_of-lines_text
