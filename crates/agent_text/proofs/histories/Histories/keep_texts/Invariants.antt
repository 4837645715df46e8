use Rattle.std.proofs.Common.{◌≡◌}
use Rattle.agent_text.proofs.histories.Histories.keep_texts.Given as goal

-- the histories are the same
abbrev pub invariant-loop-place : goal.invariant-loop-place
invariant-loop-place l = l.self ≡ l.fn.self
