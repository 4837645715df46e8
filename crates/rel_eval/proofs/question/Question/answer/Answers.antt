use Rattle.std.proofs.Common.{refl, ◌∙◌, [], ◌∷◌, ◌++◌, inl, inr}
use Rattle.bf_machine.proofs.Looking.{OnlyLooks-refl, OnlyLooks-trans}
use Rattle.rel_value.specs.Views.{shown}
use Rattle.rel_eval.specs.Cursors.{cursor_rest}
use Rattle.rel_eval.proofs.Uses.{so_none, so_value, so_enough, so_unable, so_end, so_error, so_failed, so_memory, so_closed, so_unopened, took_more}
use Rattle.rel_eval.proofs.question.Question.answer.Goals as goal

pub returns-in-Err-clause-answers : goal.returns-in-Err-clause-answers
returns-in-Err-clause-answers g c = λ w h. so_unopened _ _ _ _

pub returns-in-Err-clause-handed : goal.returns-in-Err-clause-handed
returns-in-Err-clause-handed g c = inl ([], refl)

pub loop-value-init : goal.loop-value-init
loop-value-init g c = record {
  used = λ w h. so_none _ _ _ _ _ (c.in-Ok.ensures.rest w);
  handed = ([], refl);
  steady = refl;
  looks = OnlyLooks-refl _;
}

pub loop-value-preserved : goal.loop-value-preserved
loop-value-preserved g c =
    let i = c.loop-value.invariant in
    let e = c.in-Value.ensures in
    record {
      used = λ w h. so_value _ _ _ _ _ _ _ _ _ _ _ (i.used w h) (e.goes w (i.looks.world ∙ h)) c.in-More.ensures;
      handed =
          (i.handed.0 ++ shown c.in-Value.value ∷ [], took_more g.T.Taker.takes c.args.taker.now c.loop-value.taker c.take.new.self i.handed.0 (shown c.in-Value.value) i.handed.1 c.in-More.ensures);
      steady = e.cause ∙ i.steady;
      looks = OnlyLooks-trans i.looks e.looks;
    }

pub returns-in-Enough-clause-answers : goal.returns-in-Enough-clause-answers
returns-in-Enough-clause-answers g c = λ w h.
    let i = c.loop-value.invariant in
    so_enough _ _ _ _ _ _ _ _ _ _ _ (i.used w h) (c.in-Value.ensures.goes w (i.looks.world ∙ h)) c.in-Enough.ensures

pub returns-in-Enough-clause-handed : goal.returns-in-Enough-clause-handed
returns-in-Enough-clause-handed g c = let i = c.loop-value.invariant.handed in (i.0, shown c.in-Value.value, (_, i.1, c.in-Enough.ensures))

pub returns-in-Memory-take-clause-answers : goal.returns-in-Memory-take-clause-answers
returns-in-Memory-take-clause-answers g c = λ w h.
    let i = c.loop-value.invariant in
    so_unable _ _ _ _ _ _ _ _ _ _ _ (i.used w h) (c.in-Value.ensures.goes w (i.looks.world ∙ h)) c.in-Memory-take.ensures

pub returns-in-Memory-take-clause-handed : goal.returns-in-Memory-take-clause-handed
returns-in-Memory-take-clause-handed g c = let i = c.loop-value.invariant.handed in inr (i.0, shown c.in-Value.value, (_, i.1, c.in-Memory-take.ensures))

pub returns-in-End-clause-answers : goal.returns-in-End-clause-answers
returns-in-End-clause-answers g c = λ w h.
    let i = c.loop-value.invariant in
    so_end _ _ _ _ _ _ _ _ _ (i.used w h) (c.in-End.ensures.goes w (i.looks.world ∙ h))

pub returns-in-Error-clause-answers : goal.returns-in-Error-clause-answers
returns-in-Error-clause-answers g c = λ w h.
    let i = c.loop-value.invariant in
    so_error _ _ _ _ _ _ _ _ _ _ _ (i.used w h) (c.in-Error.ensures.goes w (i.looks.world ∙ h))

pub returns-in-Failed-clause-answers : goal.returns-in-Failed-clause-answers
returns-in-Failed-clause-answers g c = λ w h.
    let i = c.loop-value.invariant in
    so_failed _ _ _ _ _ _ _ _ _ _ (i.used w h) (c.in-Failed.ensures.goes w (i.looks.world ∙ h))

pub returns-in-Memory-clause-answers : goal.returns-in-Memory-clause-answers
returns-in-Memory-clause-answers g c = λ w h.
    let i = c.loop-value.invariant in
    so_memory _ _ _ _ _ _ (cursor_rest w c.pull.new.self) _ _ (i.used w h) (c.in-Memory.ensures.goes w (i.looks.world ∙ h))

pub returns-in-Closed-clause-answers : goal.returns-in-Closed-clause-answers
returns-in-Closed-clause-answers g c = λ w h.
    let i = c.loop-value.invariant in
    so_closed _ _ _ _ _ _ (cursor_rest w c.pull.new.self) _ _ (i.used w h) (c.in-Closed.ensures.goes w (i.looks.world ∙ h))

pub returns-in-End-clause-handed : goal.returns-in-End-clause-handed
returns-in-End-clause-handed g c = c.loop-value.invariant.handed

pub returns-in-Error-clause-handed : goal.returns-in-Error-clause-handed
returns-in-Error-clause-handed g c = c.loop-value.invariant.handed

pub returns-in-Failed-clause-handed : goal.returns-in-Failed-clause-handed
returns-in-Failed-clause-handed g c = c.loop-value.invariant.handed

pub returns-in-Memory-clause-handed : goal.returns-in-Memory-clause-handed
returns-in-Memory-clause-handed g c = inl c.loop-value.invariant.handed

pub returns-in-Closed-clause-handed : goal.returns-in-Closed-clause-handed
returns-in-Closed-clause-handed g c = inl c.loop-value.invariant.handed
