use Rattle.std.proofs.lemmas.Result.{err_from_is_err_and}
use Rattle.script_text.proofs.ItemLemmas.{equals_absent}
use Rattle.script_text.proofs.fields.loose_equals.Goals as goal

pub returns-in_err-equals : goal.returns-in_err-equals
returns-in_err-equals c =
    let p = err_from_is_err_and c.from_residual.result c.from_residual.ensures.1 in
    rw (p.1, p.2) (equals_absent c.args.text.now c.split_run.result.0.now c.split_run.result.1.now _ c.split_run.ensures c.in_err-equals.ensures)
