use Rattle.std.proofs.Common.{All, map}
use Rattle.agent_text.specs.Histories.{shown_history, with_reported}
use Rattle.agent_text.specs.KeptTexts.{KeepsText}
use Rattle.agent_text.proofs.ItemLemmas.{Reports}
use Rattle.agent_text.proofs.histories.Histories.report.Given as goal

-- the histories so far are reported, as many as are not left
abbrev pub invariant-loop-history : goal.invariant-loop-history
invariant-loop-history l = record {
  so_far : Reports (with_reported l.fn.most l.fn.self) (map shown_history l.history-items) l.history-index l.left;
  texts : All KeepsText l.history-items;
}
