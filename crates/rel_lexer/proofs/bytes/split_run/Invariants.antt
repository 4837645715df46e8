use Rattle.std.proofs.Common.{◌≡◌, ℕ, ◌<◌, true, get_or}
use Rattle.rel_lexer.specs.Runs.{passes}
use Rattle.rel_lexer.proofs.bytes.split_run.Given as goal

abbrev pub invariant-loop-at : goal.invariant-loop-at
invariant-loop-at l = (k : ℕ) → k < l.at → passes l.run (get_or l.bytes k 0) ≡ true
