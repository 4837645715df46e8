-- What is made of each form, and of lists of parts.
use Rattle.std.proofs.Common.{◌≡◌, SFits, w64, arith, rules, refl, sym, ap, ◌∙◌, take}
use Rattle.std.proofs.lemmas.Int.{to_z-of_z}
use Rattle.std.proofs.lemmas.Result.{IfOk-weaker}
use Rattle.rel_value.specs.Plain.{integer, words}
use Rattle.rel_value.specs.Views.{shown_kind}
use Rattle.rel_types.specs.declared.node.Node.{out-Node}
use Rattle.rel_trace.specs.Ones.{one_kind}
use Rattle.rel_types.specs.Views.{shown_form, shown_held, shown_links, shown_node, shown_nodes}
use Rattle.rel_nodes.specs.Core.{nothing_core, it_core, one_core, choice_core, casted_core, chained_core, collected_core, constant_core, core_of, form_core, singly_core, tuple_core}
use Rattle.rel_nodes.specs.HeldParts.{part_shape}
use Rattle.rel_nodes.specs.Nodes.{boxed_shape, shape}
use Rattle.rel_nodes.specs.Runs.{run_core}
use Rattle.rel_nodes.specs.Tuples.{traces}
use Rattle.rel_nodes.proofs.Alikes.{alike_same, on_alike, on_same}
use Rattle.rel_nodes.proofs.HeldParts.{boxed, head_held, argued_held, over_held, filtered_held}
use Rattle.rel_nodes.proofs.Joining.{same}
use Rattle.rel_nodes.proofs.Lists.{chained_all, chained_more, collected_all, collected_more}
use Rattle.rel_nodes.proofs.Made.{number_made, literal_made, it_made, phrase_made, body_made, cast_made, unary_made, chain_made, if_made, tuple_made, collection_made}
use Rattle.rel_nodes.proofs.Shown.{node-shown, shown-integer}
use Rattle.rel_nodes.proofs.TupleParts.{meant_leftless, meant_more, tuple_meant}
use Rattle.rel_nodes.proofs.beginning.+begun.Goals as goal

pub begun-returns : goal.begun-returns
begun-returns t c = on_alike c.begin_form.result (form_core (shown_kind (out-Node c.args.plan.now).kind) (out-Node c.args.plan.now).plural (shown_form (out-Node c.args.plan.now).form)) (core_of (shown_node c.args.plan.now)) c.begin_form.ensures (alike_same (form_core (shown_kind (out-Node c.args.plan.now).kind) (out-Node c.args.plan.now).plural (shown_form (out-Node c.args.plan.now).form)) (core_of (shown_node c.args.plan.now)) (ap core_of (sym (node-shown c.args.plan.now))))

pub begin_form-returns-in-Number : goal.begin_form-returns-in-Number
begin_form-returns-in-Number t c =
    let fits : SFits w64 c.in-Number.number = search rules in
    let value : c.new.result ≡ integer c.in-Number.number = (simp to_z-of_z at c.new.ensures) ∙ shown-integer c.in-Number.number in
    on_same c.pure.result (constant_core c.new.result) (form_core (shown_kind c.args.kind.now) c.args.plural (shown_form c.args.form.now)) c.pure.ensures (number_made (shown_kind c.args.kind.now) c.args.plural c.args.form.now c.in-Number.place c.in-Number.number (constant_core c.new.result) c.in-Number.is (ap constant_core value))

pub begin_form-returns-in-Literal : goal.begin_form-returns-in-Literal
begin_form-returns-in-Literal t c = on_same c.literal.result (constant_core (words c.in-Literal.text)) (form_core (shown_kind c.args.kind.now) c.args.plural (shown_form c.args.form.now)) c.literal.ensures (literal_made (shown_kind c.args.kind.now) c.args.plural c.args.form.now c.in-Literal.place c.in-Literal.text (constant_core (words c.in-Literal.text)) c.in-Literal.is refl)

pub begin_form-returns-in-It : goal.begin_form-returns-in-It
begin_form-returns-in-It t c = on_same c.pure-in-It.result it_core (form_core (shown_kind c.args.kind.now) c.args.plural (shown_form c.args.form.now)) c.pure-in-It.ensures (it_made (shown_kind c.args.kind.now) c.args.plural c.args.form.now c.in-It.place it_core c.in-It.is refl)

pub begin_form-returns-in_ok-kept-in-Phrase : goal.begin_form-returns-in_ok-kept-in-Phrase
begin_form-returns-in_ok-kept-in-Phrase t c =
    on_same c.singly.result (singly_core c.args.plural c.in-Phrase.place (boxed_shape c.in_ok-kept-in-Phrase.kept)) (form_core (shown_kind c.args.kind.now) c.args.plural (shown_form c.args.form.now)) c.singly.ensures
    (phrase_made (shown_kind c.args.kind.now) c.args.plural c.args.form.now c.in-Phrase.place c.in-Phrase.head c.in-Phrase.argument c.in-Phrase.filter c.in-Phrase.object
    (singly_core c.args.plural c.in-Phrase.place (boxed_shape c.in_ok-kept-in-Phrase.kept)) (boxed_shape c.in_ok-kept-in-Phrase.kept) (boxed_shape c.in_ok-values-in-Phrase.values) (boxed_shape c.in_ok-inside-in-Phrase.inside) c.in-Phrase.is
    (head_held (shown_kind c.args.kind.now) c.in-Phrase.place c.in-Phrase.head (shown_held c.in-Phrase.argument) (part_shape c.in_ok-objects-in-Phrase.objects) (shown_held c.in-Phrase.object) (boxed_shape c.in_ok-inside-in-Phrase.inside) c.in_ok-inside-in-Phrase.ensures c.in_ok-objects-in-Phrase.ensures)
    (argued_held (part_shape c.in_ok-arguments-in-Phrase.arguments) (shown_held c.in-Phrase.argument) (boxed_shape c.in_ok-values-in-Phrase.values) (boxed_shape c.in_ok-inside-in-Phrase.inside) c.in_ok-values-in-Phrase.ensures c.in_ok-arguments-in-Phrase.ensures)
    (filtered_held c.in-Phrase.place (part_shape c.in_ok-test-in-Phrase.test) (shown_held c.in-Phrase.filter) (boxed_shape c.in_ok-kept-in-Phrase.kept) (boxed_shape c.in_ok-values-in-Phrase.values) c.in_ok-kept-in-Phrase.ensures c.in_ok-test-in-Phrase.ensures)
    refl)

pub begin_form-returns-in_ok-kept-in-Body : goal.begin_form-returns-in_ok-kept-in-Body
begin_form-returns-in_ok-kept-in-Body t c =
    on_same c.singly-in-Body.result (singly_core c.args.plural c.in-Body.place (boxed_shape c.in_ok-kept-in-Body.kept)) (form_core (shown_kind c.args.kind.now) c.args.plural (shown_form c.args.form.now)) c.singly-in-Body.ensures
    (body_made (shown_kind c.args.kind.now) c.args.plural c.args.form.now c.in-Body.place c.in-Body.body c.in-Body.filter c.in-Body.object
    (singly_core c.args.plural c.in-Body.place (boxed_shape c.in_ok-kept-in-Body.kept)) (boxed_shape c.in_ok-kept-in-Body.kept) (boxed_shape c.in_ok-values-in-Body.values) (boxed_shape c.in_ok-inside-in-Body.inside) c.in-Body.is
    (boxed (boxed_shape c.in_ok-inside-in-Body.inside) c.deref.result.now c.in-Body.body c.deref.ensures c.in_ok-inside-in-Body.ensures)
    (over_held c.in-Body.place (part_shape c.in_ok-objects-in-Body.objects) (shown_held c.in-Body.object) (boxed_shape c.in_ok-values-in-Body.values) (boxed_shape c.in_ok-inside-in-Body.inside) c.in_ok-values-in-Body.ensures c.in_ok-objects-in-Body.ensures)
    (filtered_held c.in-Body.place (part_shape c.in_ok-test-in-Body.test) (shown_held c.in-Body.filter) (boxed_shape c.in_ok-kept-in-Body.kept) (boxed_shape c.in_ok-values-in-Body.values) c.in_ok-kept-in-Body.ensures c.in_ok-test-in-Body.ensures)
    refl)

pub begin_form-returns-in_ok-part-in-Cast : goal.begin_form-returns-in_ok-part-in-Cast
begin_form-returns-in_ok-part-in-Cast t c =
    on_alike c.casted.result (casted_core c.in-Cast.casts (boxed_shape c.in_ok-part-in-Cast.part)) (form_core (shown_kind c.args.kind.now) c.args.plural (shown_form c.args.form.now)) c.casted.ensures
    (cast_made (shown_kind c.args.kind.now) c.args.plural c.args.form.now c.in-Cast.first c.in-Cast.casts (casted_core c.in-Cast.casts (boxed_shape c.in_ok-part-in-Cast.part)) (boxed_shape c.in_ok-part-in-Cast.part) c.in-Cast.is
    (boxed (boxed_shape c.in_ok-part-in-Cast.part) c.deref-in-Cast.result.now c.in-Cast.first c.deref-in-Cast.ensures c.in_ok-part-in-Cast.ensures)
    (same (casted_core c.in-Cast.casts (boxed_shape c.in_ok-part-in-Cast.part))))

pub begin_form-returns-in_ok-part-in-Unary : goal.begin_form-returns-in_ok-part-in-Unary
begin_form-returns-in_ok-part-in-Unary t c =
    on_same c.with_one.result (one_core (one_kind c.prefix.result) (boxed_shape c.in_ok-part-in-Unary.part)) (form_core (shown_kind c.args.kind.now) c.args.plural (shown_form c.args.form.now)) c.with_one.ensures
    (unary_made (shown_kind c.args.kind.now) c.args.plural c.args.form.now c.in-Unary.place c.in-Unary.sign c.in-Unary.right (one_kind c.prefix.result) (one_core (one_kind c.prefix.result) (boxed_shape c.in_ok-part-in-Unary.part)) (boxed_shape c.in_ok-part-in-Unary.part) c.in-Unary.is
    (boxed (boxed_shape c.in_ok-part-in-Unary.part) c.deref-in-Unary.result.now c.in-Unary.right c.deref-in-Unary.ensures c.in_ok-part-in-Unary.ensures) c.prefix.ensures refl)

pub begin_form-returns-in_ok-part-in-Chain : goal.begin_form-returns-in_ok-part-in-Chain
begin_form-returns-in_ok-part-in-Chain t c =
    on_alike c.chained.result (chained_core (shown_links c.in-Chain.rest) (boxed_shape c.in_ok-part-in-Chain.part)) (form_core (shown_kind c.args.kind.now) c.args.plural (shown_form c.args.form.now)) c.chained.ensures
    (chain_made (shown_kind c.args.kind.now) c.args.plural c.args.form.now c.in-Chain.first c.in-Chain.rest (chained_core (shown_links c.in-Chain.rest) (boxed_shape c.in_ok-part-in-Chain.part)) (boxed_shape c.in_ok-part-in-Chain.part) c.in-Chain.is
    (boxed (boxed_shape c.in_ok-part-in-Chain.part) c.deref-in-Chain.result.now c.in-Chain.first c.deref-in-Chain.ensures c.in_ok-part-in-Chain.ensures) (same (chained_core (shown_links c.in-Chain.rest) (boxed_shape c.in_ok-part-in-Chain.part))))

pub begin_form-returns-in_ok-no-in-If : goal.begin_form-returns-in_ok-no-in-If
begin_form-returns-in_ok-no-in-If t c =
    on_same c.with_choice.result (choice_core (boxed_shape c.in_ok-test-in-If.test) (boxed_shape c.in_ok-yes-in-If.yes) (boxed_shape c.in_ok-no-in-If.no)) (form_core (shown_kind c.args.kind.now) c.args.plural (shown_form c.args.form.now)) c.with_choice.ensures
    (if_made (shown_kind c.args.kind.now) c.args.plural c.args.form.now c.in-If.place c.in-If.test c.in-If.yes c.in-If.no (choice_core (boxed_shape c.in_ok-test-in-If.test) (boxed_shape c.in_ok-yes-in-If.yes) (boxed_shape c.in_ok-no-in-If.no)) (boxed_shape c.in_ok-test-in-If.test) (boxed_shape c.in_ok-yes-in-If.yes) (boxed_shape c.in_ok-no-in-If.no) c.in-If.is
    (boxed (boxed_shape c.in_ok-test-in-If.test) c.deref-in-If.result.now c.in-If.test c.deref-in-If.ensures c.in_ok-test-in-If.ensures)
    (boxed (boxed_shape c.in_ok-yes-in-If.yes) c.deref-in-If-2.result.now c.in-If.yes c.deref-in-If-2.ensures c.in_ok-yes-in-If.ensures)
    (boxed (boxed_shape c.in_ok-no-in-If.no) c.deref-in-If-3.result.now c.in-If.no c.deref-in-If-3.ensures c.in_ok-no-in-If.ensures) refl)

pub begin_form-returns-in-Tuple : goal.begin_form-returns-in-Tuple
begin_form-returns-in-Tuple t c = on_alike c.tupled.result (tuple_core (shown_nodes c.in-Tuple.parts)) (form_core (shown_kind c.args.kind.now) c.args.plural (shown_form c.args.form.now)) c.tupled.ensures (tuple_made (shown_kind c.args.kind.now) c.args.plural c.args.form.now c.in-Tuple.parts (tuple_core (shown_nodes c.in-Tuple.parts)) c.in-Tuple.is (same (tuple_core (shown_nodes c.in-Tuple.parts))))

pub begin_form-returns-in-Collection : goal.begin_form-returns-in-Collection
begin_form-returns-in-Collection t c = on_alike c.collected.result (collected_core (shown_nodes c.in-Collection.parts)) (form_core (shown_kind c.args.kind.now) c.args.plural (shown_form c.args.form.now)) c.collected.ensures (collection_made (shown_kind c.args.kind.now) c.args.plural c.args.form.now c.in-Collection.parts (collected_core (shown_nodes c.in-Collection.parts)) c.in-Collection.is (same (collected_core (shown_nodes c.in-Collection.parts))))

pub chained-loop-link-init : goal.chained-loop-link-init
chained-loop-link-init t c = alike_same (run_core c.new-run.result) (boxed_shape c.args.first) c.new-run.ensures.first

pub chained-loop-link-preserved : goal.chained-loop-link-preserved
chained-loop-link-preserved t c =
    chained_more (boxed_shape c.args.first) (run_core c.loop-link.run) (boxed_shape c.in_ok-right.right) (run_core c.in_ok-run.run') c.as_slice-link-items.result.now c.loop-link.link-index c.link-item.result
    (omega arith) c.link-item.is c.loop-link.invariant c.in_ok-right.ensures c.in_ok-run.ensures

pub chained-returns : goal.chained-returns
chained-returns t c =
    on_alike c.whole.result (run_core c.loop-link.run) (chained_core (shown_links c.args.links.now) (boxed_shape c.args.first)) c.whole.ensures
    (chained_all (boxed_shape c.args.first) (run_core c.loop-link.run) c.args.links.now c.as_slice-link-items.result.now c.loop-link.link-index c.as_slice-link-items.ensures (λ h. omega (arith, h)) c.loop-link.invariant)

pub tupled-loop-part-init : goal.tupled-loop-part-init
tupled-loop-part-init t c = λ w s a. ap (traces w s a) c.new-sections.ensures.items

pub tupled-loop-part-preserved : goal.tupled-loop-part-preserved
tupled-loop-part-preserved t c =
    meant_more c.loop-part.sections.items c.push.new.self.items (record { node = c.in_ok-node.node; last = c.span.result }) c.as_slice-part-items.result.now c.loop-part.part-index c.part-item.result
    c.loop-part.invariant c.in_ok-push.ensures.items (omega arith) c.part-item.is c.in_ok-node.ensures c.span.ensures

pub tupled-tuple_of-requires : goal.tupled-tuple_of-requires
tupled-tuple_of-requires t c = meant_leftless c.loop-part.sections.items (take c.loop-part.part-index c.as_slice-part-items.result.now) c.loop-part.invariant

pub tupled-returns : goal.tupled-returns
tupled-returns t c =
    IfOk-weaker c.tuple_of.result _ _
    (λ n e. tuple_meant (boxed_shape n) c.loop-part.sections.items c.args.parts.now c.as_slice-part-items.result.now c.loop-part.part-index e c.loop-part.invariant (λ h. omega (arith, h)) c.as_slice-part-items.ensures)
    c.tuple_of.ensures

pub collected-loop-part-init : goal.collected-loop-part-init
collected-loop-part-init t c = alike_same (run_core c.new-run.result) nothing_core (c.new-run.ensures.first ∙ ap shape c.in_ok-nothing.ensures)

pub collected-loop-part-preserved : goal.collected-loop-part-preserved
collected-loop-part-preserved t c =
    collected_more (run_core c.loop-part.run) (boxed_shape c.in_ok-next.next) (run_core c.in_ok-run.run') c.as_slice-part-items.result.now c.loop-part.part-index c.part-item.result
    (omega arith) c.part-item.is c.loop-part.invariant c.in_ok-next.ensures c.in_ok-run.ensures

pub collected-returns : goal.collected-returns
collected-returns t c =
    on_alike c.whole.result (run_core c.loop-part.run) (collected_core (shown_nodes c.args.parts.now)) c.whole.ensures
    (collected_all (run_core c.loop-part.run) c.args.parts.now c.as_slice-part-items.result.now c.loop-part.part-index c.as_slice-part-items.ensures (λ h. omega (arith, h)) c.loop-part.invariant)
