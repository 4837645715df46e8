use Rattle.std.proofs.Common.{◌∙◌, ap}
use Rattle.session_words.proofs.Deepness.{link_found, link_passed, links_begin, links_on, links_over, part_found, part_passed, parts_begin, parts_on, parts_over, phrase_in}
use Rattle.session_words.proofs.depth.+depth.Goals as goal

-- ---- a tree
pub first_in-returns-in-Phrase : goal.first_in-returns-in-Phrase
first_in-returns-in-Phrase t c =
    phrase_in c.args.room c.saturating_sub-inside.result c.args.tree.now _ _ _ _ _ c.place_if_deep.result c.first_held.result c.first_held-in-Phrase.result
    c.first_held-in-Phrase-2.result c.first_of.result c.or.result c.in-Phrase.is c.saturating_sub-inside.ensures c.place_if_deep.ensures c.first_held.ensures
    c.first_held-in-Phrase.ensures c.first_held-in-Phrase-2.ensures c.first_of.ensures c.or.ensures

-- ---- the links of a chain
pub first_in_links-loop-link-init : goal.first_in_links-loop-link-init
first_in_links-loop-link-init t c = ap (links_on c.args.room) c.as_slice-link-items.ensures ∙ links_begin c.args.room c.args.links.now

pub first_in_links-loop-link-preserved : goal.first_in_links-loop-link-preserved
first_in_links-loop-link-preserved t c =
    link_passed c.args.room c.as_slice-link-items.result.now c.loop-link.link-index c.link-item.result c.loop-link-test.true
    c.link-item.is c.in_default.ensures ∙ c.loop-link.invariant

pub first_in_links-returns-in-Some : goal.first_in_links-returns-in-Some
first_in_links-returns-in-Some t c =
    link_found c.args.room c.as_slice-link-items.result.now c.loop-link.link-index c.link-item.result c.in-Some.place
    c.loop-link-test.true c.link-item.is c.in-Some.ensures ∙ c.loop-link.invariant

pub first_in_links-returns : goal.first_in_links-returns
first_in_links-returns t c =
    links_over c.args.room c.as_slice-link-items.result.now c.loop-link.link-index c.loop-link-test.false ∙ c.loop-link.invariant

-- ---- the parts of a tuple or a collection
pub first_in_parts-loop-tree-init : goal.first_in_parts-loop-tree-init
first_in_parts-loop-tree-init t c = ap (parts_on c.args.room) c.as_slice-tree-items.ensures ∙ parts_begin c.args.room c.args.parts.now

pub first_in_parts-loop-tree-preserved : goal.first_in_parts-loop-tree-preserved
first_in_parts-loop-tree-preserved t c =
    part_passed c.args.room c.as_slice-tree-items.result.now c.loop-tree.tree-index c.tree-item.result c.loop-tree-test.true
    c.tree-item.is c.in_default.ensures ∙ c.loop-tree.invariant

pub first_in_parts-returns-in-Some : goal.first_in_parts-returns-in-Some
first_in_parts-returns-in-Some t c =
    part_found c.args.room c.as_slice-tree-items.result.now c.loop-tree.tree-index c.tree-item.result c.in-Some.place
    c.loop-tree-test.true c.tree-item.is c.in-Some.ensures ∙ c.loop-tree.invariant

pub first_in_parts-returns : goal.first_in_parts-returns
first_in_parts-returns t c =
    parts_over c.args.room c.as_slice-tree-items.result.now c.loop-tree.tree-index c.loop-tree-test.false ∙ c.loop-tree.invariant
