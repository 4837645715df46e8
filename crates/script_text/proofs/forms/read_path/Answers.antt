use Rattle.std.proofs.lemmas.Result.{err_from_is_err_and}
use Rattle.script_text.proofs.FormLemmas.{fails, last_item}
use Rattle.script_text.proofs.forms.read_path.Goals as goal

pub returns-in_err-gap : goal.returns-in_err-gap
returns-in_err-gap c = λ make. let p = err_from_is_err_and c.from_residual.result c.from_residual.ensures.1 in rw (p.1, p.2) (fails _ _ _ _ c.in_err-gap.ensures)

pub returns : goal.returns
returns c = λ make. last_item _ make _ _ _ c.in_ok-gap.ensures c.path_of_line.ensures
