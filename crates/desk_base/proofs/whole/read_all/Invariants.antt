use Rattle.std.proofs.Common.{◌≡◌, ◌-◌, ◌≤◌, length}
use Rattle.std.specs.Io.KnownBytes.{Consumes}
use Rattle.desk_base.specs.Counts.{CountsAtMost}
use Rattle.desk_base.proofs.whole.read_all.Given as goal

-- each read so far gave a byte at least, and none failed
abbrev pub invariant-loop-count : goal.invariant-loop-count
invariant-loop-count g l = record {
  within : length l.bytes ≤ l.limit;
  taken : Consumes (g.S.Source.told l.fn.source).left (g.S.Source.told l.source).left l.bytes;
  reads : CountsAtMost (g.S.Source.told l.fn.source).reads (g.S.Source.told l.source).reads (length l.bytes);
  steady : (g.S.Source.told l.source).faults ≡ (g.S.Source.told l.fn.source).faults;
}

abbrev pub decreases-loop-count : goal.decreases-loop-count
decreases-loop-count g l = l.limit - length l.bytes
