-- A step goes on over quiet ones, and a form as its state says of the step of its part.
use Rattle.std.proofs.Common.{◌≡◌, ◌∙◌, ℤ, List, SFits, w64, ap, arith, refl, rules, subst, sym}
use Rattle.std.proofs.lemmas.Int.{to_z-of_z}
use Rattle.bf_world.specs.declared.key.Key.{Key}
use Rattle.rel_sources.specs.declared.scene.Scene.{Scene}
use Rattle.rel_trace.specs.declared.step.Step.TheVariants.{Over}
use Rattle.rel_trace.specs.Ones.{one_left}
use Rattle.rel_trace.specs.Scopes.{seen}
use Rattle.rel_trace.specs.Steps.{Goes}
use Rattle.rel_trace.specs.Trace.{Trace}
use Rattle.rel_trace.specs.Twos.{second_around}
use Rattle.rel_nodes.specs.Core.{core}
use Rattle.rel_nodes.specs.Nodes.{rest, shape}
use Rattle.rel_nodes.specs.Remainders.{of_node, of_one}
use Rattle.rel_nodes.proofs.Going.{falls_to, over_falls, over_within}
use Rattle.rel_nodes.proofs.Measures.{step_nearer, first_falls, begins_falls, second_falls, test_falls, decided_falls, yes_falls, no_falls}
use Rattle.rel_nodes.proofs.Parts.{done_left, one_advances, first_advances, begins_advances, second_advances, test_advances, decided_advances, fresh, yes_advances, no_advances}
use Rattle.rel_nodes.proofs.Passed.{passed_none, passed_on, steps_after, steps_by, steps_once, steps_to, steps_told}
use Rattle.rel_nodes.proofs.node.+step.Goals as goal

pub Node::step-loop-alloc-init : goal.Node::step-loop-alloc-init
Node::step-loop-alloc-init g t c = (refl, passed_none _ _ _)

pub Node::step-loop-alloc-smaller : goal.Node::step-loop-alloc-smaller
Node::step-loop-alloc-smaller g t c =
    let e = c.event-step.ensures in
    let on = c.pass_over.ensures.on c.if-not-pass_over.false in
    step_nearer c.loop-alloc.self c.event-step.new.self _ _ e.shape (omega (arith, over_within _ _ _ on, e.steps.within)) (over_falls _ _ _ _ _ _ e.steps.within on e.steps.falls)

pub Node::step-loop-alloc-preserved : goal.Node::step-loop-alloc-preserved
Node::step-loop-alloc-preserved g t c =
    let i = c.loop-alloc.invariant in
    let e = c.event-step.ensures in
    (e.shape ∙ i.0, passed_on i.1 e.steps (c.pass_over.ensures.on c.if-not-pass_over.false))

pub Node::step-returns-then-not-pass_over : goal.Node::step-returns-then-not-pass_over
Node::step-returns-then-not-pass_over g t c =
    let i = c.loop-alloc.invariant in
    let e = c.event-step.ensures in
    record {
      stop = c.pass_over.ensures.stop c.if-not-pass_over.true;
      shape = e.shape ∙ i.0;
      steps = steps_to (c.pass_over.ensures.budget c.if-not-pass_over.true) (steps_after i.1 e.steps);
    }

pub Node::event-returns-in-Nothing-clause-steps : goal.Node::event-returns-in-Nothing-clause-steps
Node::event-returns-in-Nothing-clause-steps g t c =
    rw c.in-Nothing.is (steps_told _ _ _ _ Over (λ w l. (refl, refl)) tt tt)

pub Node::event-returns-in-Pure-clause-steps : goal.Node::event-returns-in-Pure-clause-steps
Node::event-returns-in-Pure-clause-steps g t c =
    rw c.in-Pure.is (steps_told _ _ _ _ c.tell_once.result c.tell_once.ensures.goes c.tell_once.ensures.told c.tell_once.ensures.falls)

pub Node::event-returns-in-Property-clause-steps : goal.Node::event-returns-in-Property-clause-steps
Node::event-returns-in-Property-clause-steps g t c = rw c.in-Property.is (steps_once c.go_on.ensures.steps)

pub go_on_one-returns-then-is_done-clause-steps : goal.go_on_one-returns-then-is_done-clause-steps
go_on_one-returns-then-is_done-clause-steps g t c =
    let done = sym c.is_done.ensures ∙ c.if-is_done.true in
    let left = of_one c.args.scene.now c.args.part.now c.args.state.now (seen c.args.scope.now) in
    steps_told _ _ left left Over (λ w l. (done_left c.args.state.now (seen c.args.scope.now) c.args.scene.now.offset (rest w c.args.scene.now c.args.part.now (seen c.args.scope.now)) done, refl)) tt tt

pub go_on_one-returns-clause-steps : goal.go_on_one-returns-clause-steps
go_on_one-returns-clause-steps g t c =
    let offset = c.scene.inside.offset in
    let fits : SFits w64 offset = search rules in
    let same : offset ≡ c.args.scene.now.offset = ap (λ (s : Scene). s.offset) c.scene.view_is in
    let Follows : ℤ → Type 0 = λ z. (l l' : List Key) (u u' : Trace) → Goes l u c.step-step.result l' u' → Goes l (one_left c.args.state.now (seen c.args.scope.now) z u) c.after.result l' (one_left c.after.new.self (seen c.args.scope.now) z u') in
    let known : Follows offset = simp to_z-of_z at c.after.ensures.goes in
    steps_by c.step-step.ensures.steps
    (λ w h. one_advances w c.args.scene.now c.args.state.now c.after.new.self c.args.part.now c.step-step.new.self (seen c.args.scope.now) c.args.scene.now.offset _ _ _ _ c.step-step.result c.after.result (sym c.is_done.ensures ∙ c.if-is_done.false) (subst Follows same known) h)
    c.after.ensures.failed c.after.ensures.room (c.after.ensures.falls _ _)

pub go_on_two-returns-then-is_told-clause-steps : goal.go_on_two-returns-then-is_told-clause-steps
go_on_two-returns-then-is_told-clause-steps g t c =
    let inner = second_around c.args.state.now (seen c.args.scope.now) in
    let left = of_node c.args.scene.now c.args.second.now inner in
    let over = c.is_told.ensures c.if-is_told.true in
    steps_by (steps_told _ _ left left Over (λ w l. (over w c.args.scene.now inner, refl)) tt tt)
    (λ w h. second_advances w c.args.scene.now c.args.state.now c.after_second.new.self c.args.first.now c.args.second.now c.args.second.now (seen c.args.scope.now) inner _ _ _ _ Over c.after_second.result (sym c.on_second.ensures ∙ c.if-on_second.true) c.after_second.ensures.goes refl refl h)
    c.after_second.ensures.failed c.after_second.ensures.room (λ h. second_falls c.args.state.now c.after_second.new.self c.args.first.now c.args.second.now c.args.second.now Over c.after_second.result c.after_second.ensures.falls refl h)

pub go_on_two-returns-then-on_second-clause-steps : goal.go_on_two-returns-then-on_second-clause-steps
go_on_two-returns-then-on_second-clause-steps g t c =
    steps_by c.step-step.ensures.steps
    (λ w h.
    let left = rest w c.args.scene.now c.args.first.now (seen c.args.scope.now) in
    let whole = core w c.args.scene.now (shape c.step-step.new.self) in
    let same = c.release.ensures.rest w c.args.scene.now left whole (seen c.args.scope.now) in
    rw same (second_advances w c.args.scene.now c.args.state.now c.after_second-step.new.self c.args.first.now c.args.second.now c.step-step.new.self (seen c.args.scope.now) (seen c.second_scope-inner.result) _ _ _ _ c.step-step.result c.after_second-step.result (sym c.on_second.ensures ∙ c.if-on_second.true) c.after_second-step.ensures.goes c.second_scope-inner.ensures c.step-step.ensures.shape h))
    c.after_second-step.ensures.failed c.after_second-step.ensures.room (λ h. falls_to c.after_second-step.result _ _ _ (c.release.ensures.falls _ _ _) (second_falls c.args.state.now c.after_second-step.new.self c.args.first.now c.args.second.now c.step-step.new.self c.step-step.result c.after_second-step.result c.after_second-step.ensures.falls c.step-step.ensures.shape h))

pub go_on_two-returns-else-next-clause-steps : goal.go_on_two-returns-else-next-clause-steps
go_on_two-returns-else-next-clause-steps g t c =
    steps_by c.step-step-2.ensures.steps
    (λ w h. first_advances w c.args.scene.now c.args.state.now c.after_first-next.new.self c.args.first.now c.step-step-2.new.self c.args.second.now (seen c.args.scope.now) _ _ _ _ c.step-step-2.result c.after_first-next.result.step c.after_first-next.result.begins (sym c.on_second.ensures ∙ c.if-on_second.false) c.after_first-next.ensures.goes h c.if-next.false)
    c.after_first-next.ensures.failed c.after_first-next.ensures.room (λ h. first_falls c.args.state.now c.after_first-next.new.self c.args.first.now c.step-step-2.new.self c.args.second.now c.step-step-2.result c.after_first-next.result.step c.after_first-next.result.begins c.after_first-next.ensures.falls h c.if-next.false)

pub go_on_two-returns-then-next-clause-steps : goal.go_on_two-returns-then-next-clause-steps
go_on_two-returns-then-next-clause-steps g t c =
    steps_by c.step-step-2.ensures.steps
    (λ w h. begins_advances w c.args.scene.now c.args.state.now c.after_first-next.new.self c.args.first.now c.step-step-2.new.self c.args.second.now c.reset.new.self (seen c.args.scope.now) _ _ _ _ c.step-step-2.result c.after_first-next.result.step c.after_first-next.result.begins (sym c.on_second.ensures ∙ c.if-on_second.false) c.after_first-next.ensures.goes h c.if-next.true c.reset.ensures.shape (c.reset.ensures.rest w c.args.scene.now))
    c.after_first-next.ensures.failed c.after_first-next.ensures.room (λ h. begins_falls c.args.state.now c.after_first-next.new.self c.args.first.now c.step-step-2.new.self c.args.second.now c.reset.new.self c.step-step-2.result c.after_first-next.result.step c.after_first-next.result.begins c.after_first-next.ensures.falls h c.if-next.true c.reset.ensures.shape)

pub go_on_choice-returns-else-next-clause-steps : goal.go_on_choice-returns-else-next-clause-steps
go_on_choice-returns-else-next-clause-steps g t c =
    steps_by c.step-step.ensures.steps
    (λ w h. test_advances w c.args.scene.now c.args.state.now c.after_test-next.new.self c.args.test.now c.step-step.new.self c.args.yes.now c.args.no.now (seen c.args.scope.now) _ _ _ _ c.step-step.result c.after_test-next.result.step c.after_test-next.result.begins c.in-Test.is c.after_test-next.ensures.goes h c.if-next.false)
    c.after_test-next.ensures.failed c.after_test-next.ensures.room (λ h. test_falls c.args.state.now c.after_test-next.new.self c.args.test.now c.step-step.new.self c.args.yes.now c.args.no.now c.step-step.result c.after_test-next.result.step c.after_test-next.result.begins c.after_test-next.ensures.falls h c.if-next.false)

pub go_on_choice-returns-then-next-clause-steps : goal.go_on_choice-returns-then-next-clause-steps
go_on_choice-returns-then-next-clause-steps g t c =
    steps_by c.step-step.ensures.steps
    (λ w h. decided_advances w c.args.scene.now c.args.state.now c.after_test-next.new.self c.args.test.now c.step-step.new.self c.args.yes.now c.reset.new.self c.args.no.now c.reset-then-next.new.self (seen c.args.scope.now) _ _ _ _ c.step-step.result c.after_test-next.result.step c.after_test-next.result.begins c.in-Test.is c.after_test-next.ensures.goes h c.if-next.true c.reset.ensures.shape (fresh w c.args.scene.now c.args.yes.now c.reset.new.self (c.reset.ensures.rest w c.args.scene.now)) c.reset-then-next.ensures.shape (fresh w c.args.scene.now c.args.no.now c.reset-then-next.new.self (c.reset-then-next.ensures.rest w c.args.scene.now)))
    c.after_test-next.ensures.failed c.after_test-next.ensures.room (λ h. decided_falls c.args.state.now c.after_test-next.new.self c.args.test.now c.step-step.new.self c.args.yes.now c.reset.new.self c.args.no.now c.reset-then-next.new.self c.step-step.result c.after_test-next.result.step c.after_test-next.result.begins c.after_test-next.ensures.falls h c.if-next.true c.reset.ensures.shape c.reset-then-next.ensures.shape)

pub go_on_choice-returns-in-Yes-clause-steps : goal.go_on_choice-returns-in-Yes-clause-steps
go_on_choice-returns-in-Yes-clause-steps g t c =
    steps_by c.step-step-in-Yes.ensures.steps
    (λ w h. yes_advances w c.args.scene.now c.args.state.now c.after_branch.new.self c.args.test.now c.args.yes.now c.step-step-in-Yes.new.self c.args.no.now (seen c.args.scope.now) _ _ _ _ c.step-step-in-Yes.result c.after_branch.result c.after_branch.ensures.goes c.in-Yes.is c.step-step-in-Yes.ensures.shape h)
    c.after_branch.ensures.failed c.after_branch.ensures.room (λ h. yes_falls c.args.state.now c.after_branch.new.self c.args.test.now c.args.yes.now c.step-step-in-Yes.new.self c.args.no.now c.step-step-in-Yes.result c.after_branch.result c.after_branch.ensures.falls c.in-Yes.is c.step-step-in-Yes.ensures.shape h)

pub go_on_choice-returns-in-No-clause-steps : goal.go_on_choice-returns-in-No-clause-steps
go_on_choice-returns-in-No-clause-steps g t c =
    steps_by c.step-step-in-No.ensures.steps
    (λ w h. no_advances w c.args.scene.now c.args.state.now c.after_branch-in-No.new.self c.args.test.now c.args.yes.now c.args.no.now c.step-step-in-No.new.self (seen c.args.scope.now) _ _ _ _ c.step-step-in-No.result c.after_branch-in-No.result c.after_branch-in-No.ensures.goes c.in-No.is c.step-step-in-No.ensures.shape h)
    c.after_branch-in-No.ensures.failed c.after_branch-in-No.ensures.room (λ h. no_falls c.args.state.now c.after_branch-in-No.new.self c.args.test.now c.args.yes.now c.args.no.now c.step-step-in-No.new.self c.step-step-in-No.result c.after_branch-in-No.result c.after_branch-in-No.ensures.falls c.in-No.is c.step-step-in-No.ensures.shape h)
