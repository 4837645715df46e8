use Rattle.std.proofs.Common.{◌≡◌, ◌+◌, ◌∙◌, [], IfOk, ap, arith, drop, refl, subst}
use Rattle.rel_grammar.specs.Trees.{Plain}
use Rattle.rel_grammar.specs.Views.{shown}
use Rattle.session_words.proofs.Replacing.{links_begin, links_more, links_then, parts_begin, parts_more, parts_then, phrase_replaced}
use Rattle.session_words.proofs.replace.+replace.Goals as goal

pub replaced-returns-in_ok-replaced_held-in-Phrase-3 : goal.replaced-returns-in_ok-replaced_held-in-Phrase-3
replaced-returns-in_ok-replaced_held-in-Phrase-3 t c =
    subst (λ (x : Plain). IfOk c.rewritten.result (λ new. shown new ≡ x))
    (phrase_replaced c.args.tree.now _ _ _ _ _ (record {
      place = _;
      words = c.in_ok-copy-in-Phrase.field-0;
      argument = c.in_ok-replaced_held-in-Phrase.field-0;
      filter = c.in_ok-replaced_held-in-Phrase-2.field-0;
      object = c.in_ok-replaced_held-in-Phrase-3.field-0;
    }) c.in-Phrase.is refl c.in_ok-copy-in-Phrase.ensures c.in_ok-replaced_held-in-Phrase.ensures c.in_ok-replaced_held-in-Phrase-2.ensures
    c.in_ok-replaced_held-in-Phrase-3.ensures) c.rewritten.ensures

pub replaced_links-loop-link-init : goal.replaced_links-loop-link-init
replaced_links-loop-link-init t c =
    ap (λ l. links_then l c.as_slice-link-items.result.now) c.new-copies.ensures.items ∙ ap (links_then []) c.as_slice-link-items.ensures
    ∙ links_begin c.args.links.now

pub replaced_links-loop-link-preserved : goal.replaced_links-loop-link-preserved
replaced_links-loop-link-preserved t c =
    let items = c.as_slice-link-items.result.now in
    let i = c.loop-link.link-index in
    ap (λ l. links_then l (drop (i + 1) items)) c.in_ok-push.ensures.items
    ∙ links_more c.loop-link.copies.items items i c.link-item.result c.in_ok-replaced_link.field-0
    (omega (arith, c.loop-link-test.true, c.loop-link.auto.link-index-end)) c.link-item.is c.in_ok-replaced_link.ensures
    ∙ c.loop-link.invariant

pub replaced_parts-loop-tree-init : goal.replaced_parts-loop-tree-init
replaced_parts-loop-tree-init t c =
    ap (λ l. parts_then l c.as_slice-tree-items.result.now) c.new-copies.ensures.items ∙ ap (parts_then []) c.as_slice-tree-items.ensures
    ∙ parts_begin c.args.parts.now

pub replaced_parts-loop-tree-preserved : goal.replaced_parts-loop-tree-preserved
replaced_parts-loop-tree-preserved t c =
    let items = c.as_slice-tree-items.result.now in
    let i = c.loop-tree.tree-index in
    ap (λ l. parts_then l (drop (i + 1) items)) c.in_ok-push.ensures.items
    ∙ parts_more c.loop-tree.copies.items items i c.tree-item.result c.in_ok-replaced.field-0
    (omega (arith, c.loop-tree-test.true, c.loop-tree.auto.tree-index-end)) c.tree-item.is c.in_ok-replaced.ensures
    ∙ c.loop-tree.invariant
