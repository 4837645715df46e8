use Rattle.std.proofs.Common.{drop}
use Rattle.agent_attempt.specs.ActionContents.{fixlets_at}
use Rattle.agent_attempt.specs.Relevance.{SomeIs}
use Rattle.agent_attempt.proofs.Asked.{Continues}
use Rattle.agent_attempt.proofs.relevance.some_relevant.Given as goal

abbrev pub invariant-loop-id : goal.invariant-loop-id
invariant-loop-id g l =
    Continues (SomeIs l.time (fixlets_at (drop l.id-index l.ids) l.site.blocks)) (g.M.Machine.told l.machine) (SomeIs l.time (fixlets_at l.ids l.site.blocks)) (g.M.Machine.told l.fn.machine)
