use Rattle.std.proofs.Common.{◌≡◌, drop, map}
use Rattle.rel_grammar.specs.Views.{linked, parted, shown, shown_link, shown_links, shown_parts}
use Rattle.rel_grammar.proofs.+copy.Given as goal

-- with what is left, the copies are all
abbrev pub invariant-tree::LinkList::copy-loop-link : goal.invariant-tree::LinkList::copy-loop-link
invariant-tree::LinkList::copy-loop-link l = linked (shown_links l.copies) (map shown_link (drop l.link-index l.link-items)) ≡ shown_links l.self

abbrev pub invariant-tree::TreeList::copy-loop-tree : goal.invariant-tree::TreeList::copy-loop-tree
invariant-tree::TreeList::copy-loop-tree l = parted (shown_parts l.copies) (map shown (drop l.tree-index l.tree-items)) ≡ shown_parts l.self
