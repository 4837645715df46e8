use Rattle.std.proofs.Common.{drop}
use Rattle.agent_attempt.specs.Relevance.{AllAre}
use Rattle.agent_attempt.proofs.Asked.{Continues}
use Rattle.agent_attempt.proofs.clause.ask_all.Given as goal

abbrev pub invariant-loop-clause : goal.invariant-loop-clause
invariant-loop-clause g l =
    Continues (AllAre l.time (drop l.clause-index l.clauses)) (g.M.Machine.told l.machine) (AllAre l.time l.clauses) (g.M.Machine.told l.fn.machine)
