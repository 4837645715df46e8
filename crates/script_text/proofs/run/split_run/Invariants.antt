use Rattle.std.proofs.Common.{◌≡◌, ℕ, ◌<◌, true, get_or}
use Rattle.script_text.specs.Runs.{passes}
use Rattle.script_text.proofs.run.split_run.Given as goal

abbrev pub invariant-loop-at : goal.invariant-loop-at
invariant-loop-at l = (k : ℕ) → k < l.at → passes l.run (get_or l.text k 0) ≡ true
