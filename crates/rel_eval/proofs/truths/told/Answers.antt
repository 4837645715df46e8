use Rattle.std.proofs.Common.{ap, subst, sym, ◌∙◌}
use Rattle.rel_value.specs.Views.{shown}
use Rattle.rel_eval.specs.declared.one_value.OneValue.{OneValue}
use Rattle.rel_eval.specs.Ones.{TellsOne, one_has_failed}
use Rattle.rel_eval.specs.Singles.{judged}
use Rattle.rel_eval.proofs.Singles.{truth_of_value, truth_of_error, truth_of_failed, truth_of_memory}
use Rattle.rel_eval.proofs.truths.told.Goals as goal

pub returns-in-Value-clause-tells : goal.returns-in-Value-clause-tells
returns-in-Value-clause-tells c = λ t looks h.
    truth_of_value (judged c.args.span) t looks (shown c.in-Value.value) c.judged.result (subst (λ (x : OneValue). TellsOne t x looks) c.in-Value.is h) c.judged.ensures.tells

pub returns-in-Value-clause-failed : goal.returns-in-Value-clause-failed
returns-in-Value-clause-failed c = c.judged.ensures.failed ∙ sym (ap one_has_failed c.in-Value.is)

pub returns-in-Error-clause-tells : goal.returns-in-Error-clause-tells
returns-in-Error-clause-tells c = λ t looks h. truth_of_error (judged c.args.span) t looks c.in-Error.kind c.in-Error.place (subst (λ (x : OneValue). TellsOne t x looks) c.in-Error.is h)

pub returns-in-Failed-clause-tells : goal.returns-in-Failed-clause-tells
returns-in-Failed-clause-tells c = λ t looks h. truth_of_failed (judged c.args.span) t looks c.in-Failed.place (subst (λ (x : OneValue). TellsOne t x looks) c.in-Failed.is h)

pub returns-in-Memory-clause-tells : goal.returns-in-Memory-clause-tells
returns-in-Memory-clause-tells c = λ t looks h. truth_of_memory (judged c.args.span) t looks (subst (λ (x : OneValue). TellsOne t x looks) c.in-Memory.is h)
