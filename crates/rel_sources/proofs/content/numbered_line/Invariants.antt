use Rattle.std.proofs.Common.{◌≡◌, length}
use Rattle.std.specs.List.{slice_get}
use Rattle.std.specs.Str.Lines.{lines}
use Rattle.rel_sources.specs.Rows.{numbered}
use Rattle.rel_sources.proofs.content.numbered_line.Given as goal

abbrev pub invariant-loop-left : goal.invariant-loop-left
invariant-loop-left l = numbered l.number (lines l.content) ≡ slice_get (lines l.left) l.before

abbrev pub decreases-loop-left : goal.decreases-loop-left
decreases-loop-left l = length l.left
