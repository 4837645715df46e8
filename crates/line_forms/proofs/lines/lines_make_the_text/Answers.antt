use Rattle.line_forms.proofs.LineLemmas.{text_of-lines, lines_of-lines, unended_of-line}
use Rattle.line_forms.proofs.lines.lines_make_the_text.Goals as goal

pub returns-clause-whole : goal.returns-clause-whole
returns-clause-whole c = text_of-lines

pub returns-clause-lines : goal.returns-clause-lines
returns-clause-lines c = lines_of-lines

pub returns-clause-unended : goal.returns-clause-unended
returns-clause-unended c = unended_of-line
