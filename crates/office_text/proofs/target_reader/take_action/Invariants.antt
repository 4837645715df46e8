use Rattle.std.proofs.Common.{length}
use Rattle.office_text.proofs.TargetLemmas.{ActionSoFar}
use Rattle.office_text.proofs.target_reader.take_action.Given as goal

-- the lines so far were taken as this text, and whether the line for all computers was among them
abbrev pub invariant-loop-line : goal.invariant-loop-line
invariant-loop-line l = ActionSoFar l.initial.lines l.lines l.text l.for_all

abbrev pub decreases-loop-line : goal.decreases-loop-line
decreases-loop-line l = length l.lines.lines
