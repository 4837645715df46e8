use Rattle.std.proofs.Common.{arith, ◌+◌, ◌∙◌, map, ap, sym, drop}
use Rattle.std.proofs.lemmas.Result.{err_from_is_err_and}
use Rattle.rel_grammar.specs.Views.{shown, shown_link, tree_items, link_items}
use Rattle.rel_types.specs.Outcomes.{defined}
use Rattle.rel_types.specs.Heads.{head_of}
use Rattle.rel_types.proofs.NodeLists.{kind-shown}
use Rattle.rel_types.specs.Plans.{no_nodes, no_links}
use Rattle.rel_types.specs.Tables.{shown_chained, shown_headed}
use Rattle.rel_types.specs.Typing.{typed, one_more, one_more_like}
use Rattle.rel_types.specs.Views.{shown_held, shown_lent, shown_links, shown_node, shown_nodes}
use Rattle.rel_value.specs.Views.{shown_kind}
use Rattle.rel_grammar.specs.Spans.{span_of_tree}
use Rattle.rel_types.proofs.Lists.{steps_go, steps_fail, steps_at, steps_begin, steps_over, part_step, like_step, link_step}
use Rattle.rel_types.proofs.Parts.{all_parts, all_alike, all_links, link_goes, link_fails_first, link_fails_next, like_goes, like_fails_next, part_goes, filter_fails, branch_fails}
use Rattle.rel_types.proofs.Steps.{fails_first, fails_next}
use Rattle.rel_types.proofs.typing.+typing.Goals as goal

-- the parts of a collection
pub alike-loop-tree-init : goal.alike-loop-tree-init
alike-loop-tree-init t c = steps_begin (like_step (shown_lent c.args.it)) shown (shown_nodes c.new-nodes.result) no_nodes c.as_slice-tree-items.result.now (tree_items c.args.trees.now) _ c.new-nodes.ensures c.as_slice-tree-items.ensures (all_alike (shown_lent c.args.it) c.args.trees.now)

pub alike-loop-tree-preserved : goal.alike-loop-tree-preserved
alike-loop-tree-preserved t c = steps_go (like_step (shown_lent c.args.it)) (shown_nodes c.loop-tree.nodes) (shown_nodes c.in_ok-nodes.nodes) (shown c.tree-item.result) (map shown (drop (c.loop-tree.tree-index + 1) c.as_slice-tree-items.result.now)) _ (steps_at (like_step (shown_lent c.args.it)) shown (shown_nodes c.loop-tree.nodes) c.as_slice-tree-items.result.now c.loop-tree.tree-index c.tree-item.result _ (omega arith) c.tree-item.is c.loop-tree.invariant) (like_goes (shown_lent c.args.it) (shown_nodes c.loop-tree.nodes) (shown_nodes c.in_ok-nodes.nodes) (shown c.tree-item.result) c.span.result (shown_node c.in_ok-node.node) c.span.ensures c.in_ok-node.ensures c.in_ok-nodes.ensures)

pub alike-returns-in_err-node : goal.alike-returns-in_err-node
alike-returns-in_err-node t c = let p = err_from_is_err_and c.from_residual.result c.from_residual.ensures.1 in rw (p.1, p.2) (steps_fail (like_step (shown_lent c.args.it)) (shown_nodes c.loop-tree.nodes) (shown c.tree-item.result) (map shown (drop (c.loop-tree.tree-index + 1) c.as_slice-tree-items.result.now)) _ _ (steps_at (like_step (shown_lent c.args.it)) shown (shown_nodes c.loop-tree.nodes) c.as_slice-tree-items.result.now c.loop-tree.tree-index c.tree-item.result _ (omega arith) c.tree-item.is c.loop-tree.invariant) (fails_first (typed (shown_lent c.args.it) (shown c.tree-item.result)) (one_more_like (shown_nodes c.loop-tree.nodes) (span_of_tree (shown c.tree-item.result))) _ c.in_err-node.ensures))

pub alike-returns-in_err-nodes : goal.alike-returns-in_err-nodes
alike-returns-in_err-nodes t c = let p = err_from_is_err_and c.from_residual-in_err-nodes.result c.from_residual-in_err-nodes.ensures.1 in rw (p.1, p.2) (steps_fail (like_step (shown_lent c.args.it)) (shown_nodes c.loop-tree.nodes) (shown c.tree-item.result) (map shown (drop (c.loop-tree.tree-index + 1) c.as_slice-tree-items.result.now)) _ _ (steps_at (like_step (shown_lent c.args.it)) shown (shown_nodes c.loop-tree.nodes) c.as_slice-tree-items.result.now c.loop-tree.tree-index c.tree-item.result _ (omega arith) c.tree-item.is c.loop-tree.invariant) (like_fails_next (shown_lent c.args.it) (shown_nodes c.loop-tree.nodes) (shown c.tree-item.result) c.span.result (shown_node c.in_ok-node.node) _ c.span.ensures c.in_ok-node.ensures c.in_err-nodes.ensures))

pub alike-returns : goal.alike-returns
alike-returns t c = steps_over (like_step (shown_lent c.args.it)) shown (shown_nodes c.loop-tree.nodes) c.as_slice-tree-items.result.now c.loop-tree.tree-index _ (λ h. omega (arith, h)) c.loop-tree.invariant

-- the operands of a chain
pub links-loop-link-init : goal.links-loop-link-init
links-loop-link-init t c = steps_begin (link_step (shown_lent c.args.it)) shown_link (record { kind = shown_kind c.args.first; links = shown_links c.new.result }) (record { kind = shown_kind c.args.first; links = no_links }) c.as_slice-link-items.result.now (link_items c.args.rest.now) _ (ap (λ l. record { kind = shown_kind c.args.first; links = l }) c.new.ensures) c.as_slice-link-items.ensures (all_links (shown_lent c.args.it) (shown_kind c.args.first) c.args.rest.now)

pub links-loop-link-preserved : goal.links-loop-link-preserved
links-loop-link-preserved t c = steps_go (link_step (shown_lent c.args.it)) (shown_chained c.loop-link.done) (shown_chained c.in_ok-done.done) (shown_link c.link-item.result) (map shown_link (drop (c.loop-link.link-index + 1) c.as_slice-link-items.result.now)) _ (steps_at (link_step (shown_lent c.args.it)) shown_link (shown_chained c.loop-link.done) c.as_slice-link-items.result.now c.loop-link.link-index c.link-item.result _ (omega arith) c.link-item.is c.loop-link.invariant) (link_goes (shown_lent c.args.it) (shown_chained c.loop-link.done) (shown_chained c.in_ok-done.done) c.link-item.result c.span.result (shown_node c.in_ok-right.right) c.span.ensures c.in_ok-right.ensures c.in_ok-done.ensures)

pub links-returns-in_err-right : goal.links-returns-in_err-right
links-returns-in_err-right t c = let p = err_from_is_err_and c.from_residual.result c.from_residual.ensures.1 in rw (p.1, p.2) (steps_fail (link_step (shown_lent c.args.it)) (shown_chained c.loop-link.done) (shown_link c.link-item.result) (map shown_link (drop (c.loop-link.link-index + 1) c.as_slice-link-items.result.now)) _ _ (steps_at (link_step (shown_lent c.args.it)) shown_link (shown_chained c.loop-link.done) c.as_slice-link-items.result.now c.loop-link.link-index c.link-item.result _ (omega arith) c.link-item.is c.loop-link.invariant) (link_fails_first (shown_lent c.args.it) (shown_chained c.loop-link.done) c.link-item.result _ c.in_err-right.ensures))

pub links-returns-in_err-done : goal.links-returns-in_err-done
links-returns-in_err-done t c = let p = err_from_is_err_and c.from_residual-in_err-done.result c.from_residual-in_err-done.ensures.1 in rw (p.1, p.2) (steps_fail (link_step (shown_lent c.args.it)) (shown_chained c.loop-link.done) (shown_link c.link-item.result) (map shown_link (drop (c.loop-link.link-index + 1) c.as_slice-link-items.result.now)) _ _ (steps_at (link_step (shown_lent c.args.it)) shown_link (shown_chained c.loop-link.done) c.as_slice-link-items.result.now c.loop-link.link-index c.link-item.result _ (omega arith) c.link-item.is c.loop-link.invariant) (link_fails_next (shown_lent c.args.it) (shown_chained c.loop-link.done) c.link-item.result c.span.result (shown_node c.in_ok-right.right) _ c.span.ensures c.in_ok-right.ensures c.in_err-done.ensures))

pub links-returns : goal.links-returns
links-returns t c = steps_over (link_step (shown_lent c.args.it)) shown_link (shown_chained c.loop-link.done) c.as_slice-link-items.result.now c.loop-link.link-index _ (λ h. omega (arith, h)) c.loop-link.invariant

-- the parts of a tuple
pub parts-loop-tree-init : goal.parts-loop-tree-init
parts-loop-tree-init t c = steps_begin (part_step (shown_lent c.args.it)) shown (shown_nodes c.new-nodes.result) no_nodes c.as_slice-tree-items.result.now (tree_items c.args.trees.now) _ c.new-nodes.ensures c.as_slice-tree-items.ensures (all_parts (shown_lent c.args.it) c.args.trees.now)

pub parts-loop-tree-preserved : goal.parts-loop-tree-preserved
parts-loop-tree-preserved t c = steps_go (part_step (shown_lent c.args.it)) (shown_nodes c.loop-tree.nodes) (shown_nodes c.in_ok-nodes.nodes) (shown c.tree-item.result) (map shown (drop (c.loop-tree.tree-index + 1) c.as_slice-tree-items.result.now)) _ (steps_at (part_step (shown_lent c.args.it)) shown (shown_nodes c.loop-tree.nodes) c.as_slice-tree-items.result.now c.loop-tree.tree-index c.tree-item.result _ (omega arith) c.tree-item.is c.loop-tree.invariant) (part_goes (shown_lent c.args.it) (shown_nodes c.loop-tree.nodes) (shown_nodes c.in_ok-nodes.nodes) (shown c.tree-item.result) (shown_node c.in_ok-node.node) c.in_ok-node.ensures c.in_ok-nodes.ensures)

pub parts-returns-in_err-node : goal.parts-returns-in_err-node
parts-returns-in_err-node t c = let p = err_from_is_err_and c.from_residual.result c.from_residual.ensures.1 in rw (p.1, p.2) (steps_fail (part_step (shown_lent c.args.it)) (shown_nodes c.loop-tree.nodes) (shown c.tree-item.result) (map shown (drop (c.loop-tree.tree-index + 1) c.as_slice-tree-items.result.now)) _ _ (steps_at (part_step (shown_lent c.args.it)) shown (shown_nodes c.loop-tree.nodes) c.as_slice-tree-items.result.now c.loop-tree.tree-index c.tree-item.result _ (omega arith) c.tree-item.is c.loop-tree.invariant) (fails_first (typed (shown_lent c.args.it) (shown c.tree-item.result)) (one_more (shown_nodes c.loop-tree.nodes)) _ c.in_err-node.ensures))

pub parts-returns-in_err-nodes : goal.parts-returns-in_err-nodes
parts-returns-in_err-nodes t c = let p = err_from_is_err_and c.from_residual-in_err-nodes.result c.from_residual-in_err-nodes.ensures.1 in rw (p.1, p.2) (steps_fail (part_step (shown_lent c.args.it)) (shown_nodes c.loop-tree.nodes) (shown c.tree-item.result) (map shown (drop (c.loop-tree.tree-index + 1) c.as_slice-tree-items.result.now)) _ _ (steps_at (part_step (shown_lent c.args.it)) shown (shown_nodes c.loop-tree.nodes) c.as_slice-tree-items.result.now c.loop-tree.tree-index c.tree-item.result _ (omega arith) c.tree-item.is c.loop-tree.invariant) (fails_next (typed (shown_lent c.args.it) (shown c.tree-item.result)) (one_more (shown_nodes c.loop-tree.nodes)) (shown_node c.in_ok-node.node) _ c.in_ok-node.ensures c.in_err-nodes.ensures))

pub parts-returns : goal.parts-returns
parts-returns t c = steps_over (part_step (shown_lent c.args.it)) shown (shown_nodes c.loop-tree.nodes) c.as_slice-tree-items.result.now c.loop-tree.tree-index _ (λ h. omega (arith, h)) c.loop-tree.invariant

-- a question
pub typed-returns-in_err-filter-in-Phrase : goal.typed-returns-in_err-filter-in-Phrase
typed-returns-in_err-filter-in-Phrase t c = let p = err_from_is_err_and c.from_residual-in_err-filter-in-Phrase.result c.from_residual-in_err-filter-in-Phrase.ensures.1 in rw (p.1, p.2) (filter_fails (shown_lent c.args.it) c.args.tree.now c.in-Phrase.place c.in-Phrase.words c.in-Phrase.tree_argument c.in-Phrase.filter c.in-Phrase.object (shown_held c.in_ok-argument-in-Phrase.argument) (shown_held c.in_ok-object-in-Phrase.object) (shown_headed c.in_ok-headed-in-Phrase.headed) _ c.in-Phrase.is c.in_ok-argument-in-Phrase.ensures c.in_ok-object-in-Phrase.ensures (ap (λ w. defined c.in-Phrase.place w (head_of w (shown_held c.in_ok-argument-in-Phrase.argument) (shown_held c.in_ok-object-in-Phrase.object))) (sym c.as_str.ensures) ∙ c.in_ok-headed-in-Phrase.ensures) c.in_err-filter-in-Phrase.ensures)

pub typed-returns-in_err-no-in-If : goal.typed-returns-in_err-no-in-If
typed-returns-in_err-no-in-If t c = let p = err_from_is_err_and c.from_residual-in_err-no-in-If.result c.from_residual-in_err-no-in-If.ensures.1 in rw (p.1, p.2) (branch_fails (shown_lent c.args.it) c.args.tree.now c.in-If.place c.in-If.test c.in-If.yes c.in-If.no c.deref-in-If.result.now c.deref-in-If-2.result.now c.deref-in-If-3.result.now (shown_node c.in_ok-test-in-If.test) (shown_node c.in_ok-yes-in-If.yes) _ _ (sym (kind-shown c.in_ok-yes-in-If.yes)) c.in-If.is c.deref-in-If.ensures c.deref-in-If-2.ensures c.deref-in-If-3.ensures c.in_ok-test-in-If.ensures c.in_ok-yes-in-If.ensures c.in_err-no-in-If.ensures)
