use Rattle.std.proofs.Common.{◌≡◌, drop, map}
use Rattle.rel_types.specs.Views.{linked, listed, shown_link, shown_links, shown_node, shown_nodes}
use Rattle.rel_types.proofs.+copy.Given as goal

-- with what is left, the copies are all
abbrev pub invariant-node::Links::copy-loop-link : goal.invariant-node::Links::copy-loop-link
invariant-node::Links::copy-loop-link l = linked (shown_links l.copies) (map shown_link (drop l.link-index l.link-items)) ≡ shown_links l.self

abbrev pub invariant-node::NodeList::copy-loop-node : goal.invariant-node::NodeList::copy-loop-node
invariant-node::NodeList::copy-loop-node l = listed (shown_nodes l.copies) (map shown_node (drop l.node-index l.node-items)) ≡ shown_nodes l.self
