use Rattle.std.proofs.lemmas.Result.{err_from_is_err_and}
use Rattle.rel_grammar.specs.Views.{shown}
use Rattle.rel_eval.proofs.Untyped.{untyped}
use Rattle.rel_eval.proofs.question.prepare_tree.Goals as goal

pub returns-in_err-plan : goal.returns-in_err-plan
returns-in_err-plan c =
    let p = err_from_is_err_and c.from_residual.result c.from_residual.ensures.1 in
    rw p.1 (untyped (shown c.args.tree.now) c.in_err-plan.field-0.0 p.0 c.in_err-plan.ensures p.2)
