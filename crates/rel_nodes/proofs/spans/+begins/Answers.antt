use Rattle.std.proofs.Common.{arith}
use Rattle.rel_nodes.proofs.Ends.{begins}
use Rattle.rel_nodes.proofs.spans.+begins.Goals as goal

pub nodes_begin-returns-in-len1-up : goal.nodes_begin-returns-in-len1-up
nodes_begin-returns-in-len1-up t c = begins c.args.nodes.now c.as_slice.result.now c.first-item.result c.begin_of.result c.as_slice.ensures (omega (arith, c.in-len1-up.len_at_least)) c.first-item.is c.begin_of.ensures
