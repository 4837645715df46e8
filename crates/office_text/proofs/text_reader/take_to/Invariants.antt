use Rattle.std.proofs.Common.{length}
use Rattle.office_text.proofs.TextLemmas.{TakenSoFar}
use Rattle.office_text.proofs.text_reader.take_to.Given as goal

-- the lines so far were taken as this text
abbrev pub invariant-loop-line : goal.invariant-loop-line
invariant-loop-line l = TakenSoFar l.last l.initial.lines l.lines l.text

abbrev pub decreases-loop-line : goal.decreases-loop-line
decreases-loop-line l = length l.lines.lines
