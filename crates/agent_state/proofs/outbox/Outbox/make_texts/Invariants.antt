use Rattle.std.proofs.Common.{◌≡◌}
use Rattle.agent_state.proofs.outbox.Outbox.make_texts.Given as goal

-- the outbox shows the same
abbrev pub invariant-loop-place : goal.invariant-loop-place
invariant-loop-place l = l.self ≡ l.fn.self
