use Rattle.std.proofs.Common.{length}
use Rattle.world_text.specs.Drafts.{IsSoundPending}
use Rattle.world_text.specs.Readings.{HasRows}
use Rattle.world_text.proofs.read.read_rows.Given as goal

-- the lines so far were added
abbrev pub invariant-loop-line : goal.invariant-loop-line
invariant-loop-line l = record {
  has : HasRows l.initial.draft l.initial.lines l.lines l.draft;
  sound : IsSoundPending l.draft.pending;
}

abbrev pub decreases-loop-line : goal.decreases-loop-line
decreases-loop-line l = length l.lines.lines
