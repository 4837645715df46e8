use Rattle.std.proofs.Common.{All, length, map}
use Rattle.agent_text.specs.Histories.{shown_history}
use Rattle.agent_text.specs.KeptTexts.{KeepsText}
use Rattle.agent_text.proofs.PendingSteps.{IsMarkedTo}
use Rattle.agent_text.proofs.history_reader.take_pending.Given as goal

-- the pending actions so far were taken, and are marked
abbrev pub invariant-loop-place : goal.invariant-loop-place
invariant-loop-place l = record {
  marked : IsMarkedTo (map shown_history l.initial.histories) l.from l.initial.lines l.lines (map shown_history l.histories);
  texts : All KeepsText l.histories;
}

abbrev pub decreases-loop-place : goal.decreases-loop-place
decreases-loop-place l = length l.lines.lines
