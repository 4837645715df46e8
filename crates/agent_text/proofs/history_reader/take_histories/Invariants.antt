use Rattle.std.proofs.Common.{length}
use Rattle.std.specs.Prelude.{All, map}
use Rattle.agent_text.specs.Histories.{shown_history}
use Rattle.agent_text.specs.KeptTexts.{KeepsText}
use Rattle.agent_text.specs.PartReadings.{HasHistories}
use Rattle.agent_text.proofs.history_reader.take_histories.Given as goal

-- the lines of the histories so far were taken
abbrev pub invariant-loop-histories : goal.invariant-loop-histories
invariant-loop-histories l = record {
  taken : HasHistories l.form l.initial.lines l.lines (map shown_history l.histories.items);
  texts : All KeepsText l.histories.items;
}

abbrev pub decreases-loop-histories : goal.decreases-loop-histories
decreases-loop-histories l = length l.lines.lines
