use Rattle.std.proofs.Common.{[], refl}
use Rattle.std.proofs.lemmas.Result.{err_from_is_err_and}
use Rattle.script_text.proofs.FormLemmas.{goes_on, fails, fails_later}
use Rattle.script_text.proofs.forms.read_pair.Goals as goal

pub returns-in_err-gap : goal.returns-in_err-gap
returns-in_err-gap c = λ make. let p = err_from_is_err_and c.from_residual.result c.from_residual.ensures.1 in rw (p.1, p.2) (fails _ _ _ _ c.in_err-gap.ensures)

pub returns-in_err-first : goal.returns-in_err-first
returns-in_err-first c = λ make. let p = err_from_is_err_and c.from_residual-in_err-first.result c.from_residual-in_err-first.ensures.1 in rw (p.1, p.2) (fails_later _ _ _ tt c.in_ok-gap.field-0.now _ c.in_ok-gap.ensures (fails _ _ _ _ c.in_err-first.ensures))

pub returns-in_err-gap-2 : goal.returns-in_err-gap-2
returns-in_err-gap-2 c = λ make. let p = err_from_is_err_and c.from_residual-in_err-gap-2.result c.from_residual-in_err-gap-2.ensures.1 in rw (p.1, p.2) (fails_later _ _ _ tt c.in_ok-gap.field-0.now _ c.in_ok-gap.ensures (fails_later _ _ _ c.in_ok-first.first c.in_ok-first.rest.now _ c.in_ok-first.ensures (fails _ _ _ _ c.in_err-gap-2.ensures)))

pub returns-in_err-second : goal.returns-in_err-second
returns-in_err-second c = λ make. let p = err_from_is_err_and c.from_residual-in_err-second.result c.from_residual-in_err-second.ensures.1 in rw (p.1, p.2) (fails_later _ _ _ tt c.in_ok-gap.field-0.now _ c.in_ok-gap.ensures (fails_later _ _ _ c.in_ok-first.first c.in_ok-first.rest.now _ c.in_ok-first.ensures (fails_later _ _ _ tt c.in_ok-gap-2.field-0.now _ c.in_ok-gap-2.ensures (fails _ _ _ _ c.in_err-second.ensures))))

pub returns-in_err-ended : goal.returns-in_err-ended
returns-in_err-ended c = λ make. let p = err_from_is_err_and c.from_residual-in_err-ended.result c.from_residual-in_err-ended.ensures.1 in rw (p.1, p.2) (fails_later _ _ _ tt c.in_ok-gap.field-0.now _ c.in_ok-gap.ensures (fails_later _ _ _ c.in_ok-first.first c.in_ok-first.rest.now _ c.in_ok-first.ensures (fails_later _ _ _ tt c.in_ok-gap-2.field-0.now _ c.in_ok-gap-2.ensures (fails_later _ _ _ c.in_ok-second.second c.in_ok-second.rest.now _ c.in_ok-second.ensures (fails _ _ _ _ c.in_err-ended.ensures)))))

pub returns : goal.returns
returns c = λ make. goes_on _ _ _ tt c.in_ok-gap.field-0.now _ c.in_ok-gap.ensures (goes_on _ _ _ c.in_ok-first.first c.in_ok-first.rest.now _ c.in_ok-first.ensures (goes_on _ _ _ tt c.in_ok-gap-2.field-0.now _ c.in_ok-gap-2.ensures (goes_on _ _ _ c.in_ok-second.second c.in_ok-second.rest.now _ c.in_ok-second.ensures (goes_on _ _ _ tt [] _ c.in_ok-ended.ensures (refl)))))
