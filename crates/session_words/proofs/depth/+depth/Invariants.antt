use Rattle.std.proofs.Common.{◌≡◌, drop}
use Rattle.rel_grammar.specs.Views.{shown_links, shown_parts}
use Rattle.session_words.specs.Inside.{first_in_links, first_in_parts}
use Rattle.session_words.proofs.Deepness.{links_on, parts_on}
use Rattle.session_words.proofs.depth.+depth.Given as goal

-- none of those before is too deep
abbrev pub invariant-first_in_links-loop-link : goal.invariant-first_in_links-loop-link
invariant-first_in_links-loop-link l = links_on l.room (drop l.link-index l.link-items) ≡ first_in_links l.room (shown_links l.links)

abbrev pub invariant-first_in_parts-loop-tree : goal.invariant-first_in_parts-loop-tree
invariant-first_in_parts-loop-tree l = parts_on l.room (drop l.tree-index l.tree-items) ≡ first_in_parts l.room (shown_parts l.parts)
