use Rattle.std.proofs.Common.{◌≡◌, ◌+◌, take}
use Rattle.std.specs.Prelude.{sum_by}
use Rattle.agent_text.specs.Histories.{shown_history}
use Rattle.agent_text.specs.MostBytes.{history_bytes}
use Rattle.agent_text.proofs.size.histories_size.Given as goal

-- the bytes of the first histories and of the others so far
abbrev pub invariant-loop-history : goal.invariant-loop-history
invariant-loop-history l = l.most ≡ l.fn.histories.made.now.most + sum_by (λ h. history_bytes (shown_history h)) (take l.history-index l.history-items)
