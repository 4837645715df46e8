use Rattle.std.proofs.Common.{◌≡◌, drop, map}
use Rattle.rel_grammar.specs.Views.{shown, shown_link, shown_links, shown_parts}
use Rattle.rel_types.specs.Tables.{shown_chained}
use Rattle.rel_types.specs.Typing.{typed_alike, typed_links, typed_parts}
use Rattle.rel_types.specs.Views.{shown_lent, shown_nodes}
use Rattle.rel_value.specs.Views.{shown_kind}
use Rattle.rel_types.proofs.Lists.{steps, part_step, like_step, link_step}
use Rattle.rel_types.proofs.typing.+typing.Given as goal

-- what is left to do comes to the same
abbrev pub invariant-alike-loop-tree : goal.invariant-alike-loop-tree
invariant-alike-loop-tree l = steps (like_step (shown_lent l.fn.it)) (shown_nodes l.nodes) (map shown (drop l.tree-index l.tree-items)) ≡ typed_alike (shown_lent l.fn.it) (shown_parts l.fn.trees)

abbrev pub invariant-links-loop-link : goal.invariant-links-loop-link
invariant-links-loop-link l = steps (link_step (shown_lent l.fn.it)) (shown_chained l.done) (map shown_link (drop l.link-index l.link-items)) ≡ typed_links (shown_lent l.fn.it) (shown_kind l.fn.first) (shown_links l.fn.rest)

abbrev pub invariant-parts-loop-tree : goal.invariant-parts-loop-tree
invariant-parts-loop-tree l = steps (part_step (shown_lent l.fn.it)) (shown_nodes l.nodes) (map shown (drop l.tree-index l.tree-items)) ≡ typed_parts (shown_lent l.fn.it) (shown_parts l.fn.trees)
