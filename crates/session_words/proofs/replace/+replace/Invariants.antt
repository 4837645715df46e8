use Rattle.std.proofs.Common.{◌≡◌, drop}
use Rattle.rel_grammar.specs.Views.{shown_links, shown_parts}
use Rattle.session_words.specs.Replaced.{replaced_links, replaced_parts}
use Rattle.session_words.proofs.Replacing.{links_then, parts_then}
use Rattle.session_words.proofs.replace.+replace.Given as goal

-- what was made and what is left, replaced, are all replaced
abbrev pub invariant-replaced_links-loop-link : goal.invariant-replaced_links-loop-link
invariant-replaced_links-loop-link l = links_then l.copies.items (drop l.link-index l.link-items) ≡ replaced_links (shown_links l.links)

abbrev pub invariant-replaced_parts-loop-tree : goal.invariant-replaced_parts-loop-tree
invariant-replaced_parts-loop-tree l = parts_then l.copies.items (drop l.tree-index l.tree-items) ≡ replaced_parts (shown_parts l.parts)
