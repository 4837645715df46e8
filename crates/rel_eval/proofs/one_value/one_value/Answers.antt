use Rattle.std.proofs.Common.{None, ◌∙◌}
use Rattle.rel_nodes.specs.Spans.{span_of_node}
use Rattle.rel_eval.specs.Cursors.{cursor_rest}
use Rattle.rel_eval.specs.Cuts.{meaning}
use Rattle.rel_eval.specs.Questions.{plan_of}
use Rattle.rel_trace.specs.declared.kind.RelKind.TheVariants.{Nonexistent}
use Rattle.rel_eval.specs.declared.one_value.OneValue.TheVariants as drawn
use Rattle.rel_eval.proofs.Singles.{ones_after, ones_at, ones_end, ones_error, ones_failed, ones_memory, ones_unopened}
use Rattle.rel_eval.proofs.one_value.one_value.Goals as goal

pub returns-in-Err-clause-goes : goal.returns-in-Err-clause-goes
returns-in-Err-clause-goes g c = λ w h. ones_unopened _ _

pub returns-in-Value-clause-goes : goal.returns-in-Value-clause-goes
returns-in-Value-clause-goes g c = λ w h.
    let at = c.span-span.ensures in
    let e = c.in-Value.ensures in
    ones_at _ _ c.span-span.result (span_of_node (plan_of c.args.question.now)) (cursor_rest w c.in-Ok.cursor) (meaning w c.args.scene.now (plan_of c.args.question.now)) _ at (c.in-Ok.ensures.rest w) (ones_after _ _ _ c.span-span.result _ (cursor_rest w c.in-Ok.cursor) (cursor_rest w c.pull.new.self) _ (e.goes w h) (c.only.ensures.goes w (e.looks.world ∙ h)))

pub returns-in-End-clause-goes : goal.returns-in-End-clause-goes
returns-in-End-clause-goes g c = λ w h.
    let at = c.span-span.ensures in
    ones_at _ _ c.span-span.result (span_of_node (plan_of c.args.question.now)) (cursor_rest w c.in-Ok.cursor) (meaning w c.args.scene.now (plan_of c.args.question.now)) (drawn.Error Nonexistent c.span-span.result) at (c.in-Ok.ensures.rest w) (ones_end _ _ c.span-span.result (cursor_rest w c.in-Ok.cursor) (cursor_rest w c.pull.new.self) (c.in-End.ensures.goes w h))

pub returns-in-Error-clause-goes : goal.returns-in-Error-clause-goes
returns-in-Error-clause-goes g c = λ w h.
    let at = c.span-span.ensures in
    ones_at _ _ c.span-span.result (span_of_node (plan_of c.args.question.now)) (cursor_rest w c.in-Ok.cursor) (meaning w c.args.scene.now (plan_of c.args.question.now)) (drawn.Error c.in-Error.kind c.in-Error.place) at (c.in-Ok.ensures.rest w) (ones_error _ _ c.span-span.result _ None _ (cursor_rest w c.in-Ok.cursor) (cursor_rest w c.pull.new.self) (c.in-Error.ensures.goes w h))

pub returns-in-Failed-clause-goes : goal.returns-in-Failed-clause-goes
returns-in-Failed-clause-goes g c = λ w h.
    let at = c.span-span.ensures in
    ones_at _ _ c.span-span.result (span_of_node (plan_of c.args.question.now)) (cursor_rest w c.in-Ok.cursor) (meaning w c.args.scene.now (plan_of c.args.question.now)) (drawn.Failed c.in-Failed.place) at (c.in-Ok.ensures.rest w) (ones_failed _ _ c.span-span.result _ None (cursor_rest w c.in-Ok.cursor) (cursor_rest w c.pull.new.self) (c.in-Failed.ensures.goes w h))

pub returns-in-Memory-clause-goes : goal.returns-in-Memory-clause-goes
returns-in-Memory-clause-goes g c = λ w h.
    let at = c.span-span.ensures in
    ones_at _ _ c.span-span.result (span_of_node (plan_of c.args.question.now)) (cursor_rest w c.in-Ok.cursor) (meaning w c.args.scene.now (plan_of c.args.question.now)) drawn.Memory at (c.in-Ok.ensures.rest w) (ones_memory _ _ c.span-span.result None (cursor_rest w c.in-Ok.cursor) (cursor_rest w c.pull.new.self) (c.in-Memory.ensures.goes w h))
