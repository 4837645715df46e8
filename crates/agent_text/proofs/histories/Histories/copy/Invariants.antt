use Rattle.std.proofs.Common.{◌≡◌, All, take, map}
use Rattle.agent_text.specs.Histories.{shown_history}
use Rattle.agent_text.specs.KeptTexts.{KeepsText}
use Rattle.agent_text.proofs.histories.Histories.copy.Given as goal

abbrev pub invariant-loop-history : goal.invariant-loop-history
invariant-loop-history l = record {
  same : map shown_history l.list.items ≡ map shown_history (take l.history-index l.history-items);
  texts : All KeepsText l.list.items;
}
