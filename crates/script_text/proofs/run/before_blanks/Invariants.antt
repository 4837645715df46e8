use Rattle.std.proofs.Common.{◌≡◌, ℕ, ◌<◌, ◌≤◌, true, get_or, length}
use Rattle.script_text.specs.Bytes.{is_blank}
use Rattle.script_text.proofs.run.before_blanks.Given as goal

abbrev pub decreases-loop-end : goal.decreases-loop-end
decreases-loop-end l = l.end

abbrev pub invariant-loop-end : goal.invariant-loop-end
invariant-loop-end l = record {
  bound : l.end ≤ length l.bytes;
  blank : (k : ℕ) → l.end ≤ k → k < length l.bytes → is_blank (get_or l.bytes k 0) ≡ true;
}
