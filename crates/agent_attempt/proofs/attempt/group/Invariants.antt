use Rattle.std.proofs.Common.{◌≡◌, take}
use Rattle.agent_attempt.specs.Attempts.{numbered}
use Rattle.agent_attempt.specs.ActionContents.{fixlets_at}
use Rattle.agent_attempt.proofs.attempt.group.Given as goal

abbrev pub invariant-loop-id : goal.invariant-loop-id
invariant-loop-id l = l.parts.items ≡ numbered 1 (fixlets_at (take l.id-index l.id-items) l.site.blocks)
