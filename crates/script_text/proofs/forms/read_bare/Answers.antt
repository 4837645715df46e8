use Rattle.std.proofs.Common.{[], refl}
use Rattle.std.proofs.lemmas.Result.{err_from_is_err_and}
use Rattle.script_text.proofs.FormLemmas.{goes_on, fails}
use Rattle.script_text.proofs.forms.read_bare.Goals as goal

pub returns-in_err-ended : goal.returns-in_err-ended
returns-in_err-ended c = let p = err_from_is_err_and c.from_residual.result c.from_residual.ensures.1 in rw (p.1, p.2) (fails _ _ _ _ c.in_err-ended.ensures)

pub returns : goal.returns
returns c = goes_on _ _ _ tt [] _ c.in_ok-ended.ensures (refl)
