use Rattle.std.proofs.Common.{length}
use Rattle.office_text.proofs.TextLemmas.{ContentSoFar}
use Rattle.office_text.proofs.content_reader.take_content_lines.Given as goal

-- the lines so far were taken as this content
abbrev pub invariant-loop-line : goal.invariant-loop-line
invariant-loop-line l = ContentSoFar l.initial.lines l.lines l.content

abbrev pub decreases-loop-line : goal.decreases-loop-line
decreases-loop-line l = length l.lines.lines
