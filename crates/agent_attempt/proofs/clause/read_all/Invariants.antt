use Rattle.std.proofs.Common.{◌≡◌, take}
use Rattle.agent_attempt.proofs.clause.read_all.Given as goal

abbrev pub invariant-loop-text : goal.invariant-loop-text
invariant-loop-text l = l.clauses.items ≡ take l.text-index l.texts
