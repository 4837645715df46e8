use Rattle.std.proofs.Common.{arith, ◌∙◌, ap, sym}
use Rattle.rel_nodes.specs.Spans.{end_of}
use Rattle.rel_nodes.proofs.Ends.{nodes_ends, links_ends, link-right}
use Rattle.rel_nodes.proofs.spans.+ends.Goals as goal

pub links_end-returns-in-len1-up : goal.links_end-returns-in-len1-up
links_end-returns-in-len1-up t c = links_ends c.args.links.now c.as_slice.result.now c.last-item.result c.args.at c.end_of.result c.as_slice.ensures (omega (arith, c.in-len1-up.len_at_least)) c.last-item.is (c.end_of.ensures ∙ ap end_of (sym (link-right c.last-item.result)))

pub nodes_end-returns-in-len1-up : goal.nodes_end-returns-in-len1-up
nodes_end-returns-in-len1-up t c = nodes_ends c.args.nodes.now c.as_slice.result.now c.last-item.result c.end_of.result c.as_slice.ensures (omega (arith, c.in-len1-up.len_at_least)) c.last-item.is c.end_of.ensures
