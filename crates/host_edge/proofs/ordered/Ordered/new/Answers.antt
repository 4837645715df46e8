use Rattle.std.proofs.Common.{subst, sym}
use Rattle.host_edge.specs.Ordered.{AreEntries}
use Rattle.host_edge.proofs.Following.{no-entries}
use Rattle.host_edge.proofs.ordered.Ordered.new.Goals as goal

pub invariant_of-result : goal.invariant_of-result
invariant_of-result c = subst AreEntries (sym c.new.ensures.items) no-entries
