use Rattle.line_forms.proofs.BadLines.{StandsBehind-start, StandsBehind-next}
use Rattle.line_forms.proofs.Passing.{text_is}
use Rattle.line_forms.proofs.lines.a_cursor_stands_behind_its_lines.Goals as goal

pub returns-clause-start : goal.returns-clause-start
returns-clause-start c = StandsBehind-start

pub returns-clause-next : goal.returns-clause-next
returns-clause-next c = StandsBehind-next

pub returns-clause-whole : goal.returns-clause-whole
returns-clause-whole c = text_is
