-- What is made so far means what the parts so far mean.
use Rattle.rel_types.specs.Plans.{no_nodes}
use Rattle.std.proofs.Common.{take}
use Rattle.rel_nodes.specs.Core.{Alike, chained_core, collected_core}
use Rattle.rel_nodes.specs.Nodes.{boxed_shape}
use Rattle.rel_nodes.specs.Runs.{run_core}
use Rattle.rel_nodes.proofs.Lists.{links_to, nodes_to}
use Rattle.rel_nodes.proofs.TupleParts.{AreMeant}
use Rattle.rel_nodes.proofs.beginning.+begun.Given as goal

abbrev pub invariant-chained-loop-link : goal.invariant-chained-loop-link
invariant-chained-loop-link l = Alike (run_core l.run) (chained_core (links_to l.link-items l.link-index) (boxed_shape l.fn.first))

abbrev pub invariant-tupled-loop-part : goal.invariant-tupled-loop-part
invariant-tupled-loop-part l = AreMeant l.sections.items (take l.part-index l.part-items)

abbrev pub invariant-collected-loop-part : goal.invariant-collected-loop-part
invariant-collected-loop-part l = Alike (run_core l.run) (collected_core (nodes_to no_nodes l.part-items l.part-index))
