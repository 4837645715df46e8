use Rattle.std.proofs.Common.{[], refl}
use Rattle.std.proofs.lemmas.Result.{err_from_is_err_and}
use Rattle.script_text.proofs.FormLemmas.{goes_on, fails, fails_later, no_memory}
use Rattle.script_text.proofs.forms.read_parameter.Goals as goal

pub returns-in_err-gap : goal.returns-in_err-gap
returns-in_err-gap c = let p = err_from_is_err_and c.from_residual.result c.from_residual.ensures.1 in rw (p.1, p.2) (fails _ _ _ _ c.in_err-gap.ensures)

pub returns-in_err-name : goal.returns-in_err-name
returns-in_err-name c = let p = err_from_is_err_and c.from_residual-in_err-name.result c.from_residual-in_err-name.ensures.1 in rw (p.1, p.2) (fails_later _ _ _ tt c.in_ok-gap.field-0.now _ c.in_ok-gap.ensures (fails _ _ _ _ c.in_err-name.ensures))

pub returns-in_err-gap-2 : goal.returns-in_err-gap-2
returns-in_err-gap-2 c = let p = err_from_is_err_and c.from_residual-in_err-gap-2.result c.from_residual-in_err-gap-2.ensures.1 in rw (p.1, p.2) (fails_later _ _ _ tt c.in_ok-gap.field-0.now _ c.in_ok-gap.ensures (fails_later _ _ _ c.in_ok-name.name.now c.in_ok-name.rest.now _ c.in_ok-name.ensures (fails _ _ _ _ c.in_err-gap-2.ensures)))

pub returns-in_err-equals : goal.returns-in_err-equals
returns-in_err-equals c = let p = err_from_is_err_and c.from_residual-in_err-equals.result c.from_residual-in_err-equals.ensures.1 in rw (p.1, p.2) (fails_later _ _ _ tt c.in_ok-gap.field-0.now _ c.in_ok-gap.ensures (fails_later _ _ _ c.in_ok-name.name.now c.in_ok-name.rest.now _ c.in_ok-name.ensures (fails_later _ _ _ tt c.in_ok-gap-2.field-0.now _ c.in_ok-gap-2.ensures (fails _ _ _ _ c.in_err-equals.ensures))))

pub returns-in_err-rest : goal.returns-in_err-rest
returns-in_err-rest c = let p = err_from_is_err_and c.from_residual-in_err-rest.result c.from_residual-in_err-rest.ensures.1 in rw (p.1, p.2) (fails_later _ _ _ tt c.in_ok-gap.field-0.now _ c.in_ok-gap.ensures (fails_later _ _ _ c.in_ok-name.name.now c.in_ok-name.rest.now _ c.in_ok-name.ensures (fails_later _ _ _ tt c.in_ok-gap-2.field-0.now _ c.in_ok-gap-2.ensures (fails_later _ _ _ tt c.in_ok-equals.field-0.now _ c.in_ok-equals.ensures (fails _ _ _ _ c.in_err-rest.ensures)))))

pub returns-in_err-value : goal.returns-in_err-value
returns-in_err-value c = let p = err_from_is_err_and c.from_residual-in_err-value.result c.from_residual-in_err-value.ensures.1 in rw (p.1, p.2) (fails_later _ _ _ tt c.in_ok-gap.field-0.now _ c.in_ok-gap.ensures (fails_later _ _ _ c.in_ok-name.name.now c.in_ok-name.rest.now _ c.in_ok-name.ensures (fails_later _ _ _ tt c.in_ok-gap-2.field-0.now _ c.in_ok-gap-2.ensures (fails_later _ _ _ tt c.in_ok-equals.field-0.now _ c.in_ok-equals.ensures (fails_later _ _ _ tt c.in_ok-rest.rest.now _ c.in_ok-rest.ensures (fails _ _ _ _ c.in_err-value.ensures))))))

pub returns-in_err-ended : goal.returns-in_err-ended
returns-in_err-ended c = let p = err_from_is_err_and c.from_residual-in_err-ended.result c.from_residual-in_err-ended.ensures.1 in rw (p.1, p.2) (fails_later _ _ _ tt c.in_ok-gap.field-0.now _ c.in_ok-gap.ensures (fails_later _ _ _ c.in_ok-name.name.now c.in_ok-name.rest.now _ c.in_ok-name.ensures (fails_later _ _ _ tt c.in_ok-gap-2.field-0.now _ c.in_ok-gap-2.ensures (fails_later _ _ _ tt c.in_ok-equals.field-0.now _ c.in_ok-equals.ensures (fails_later _ _ _ tt c.in_ok-rest.rest.now _ c.in_ok-rest.ensures (fails_later _ _ _ c.in_ok-value.value c.in_ok-value.rest.now _ c.in_ok-value.ensures (fails _ _ _ _ c.in_err-ended.ensures)))))))

pub returns-in_err-name-2 : goal.returns-in_err-name-2
returns-in_err-name-2 c = let p = err_from_is_err_and c.from_residual-in_err-name-2.result c.from_residual-in_err-name-2.ensures.1 in rw (p.1, p.2) (no_memory _ _)

pub returns : goal.returns
returns c = rw (c.in_ok-name-2.ensures) (goes_on _ _ _ tt c.in_ok-gap.field-0.now _ c.in_ok-gap.ensures (goes_on _ _ _ c.in_ok-name.name.now c.in_ok-name.rest.now _ c.in_ok-name.ensures (goes_on _ _ _ tt c.in_ok-gap-2.field-0.now _ c.in_ok-gap-2.ensures (goes_on _ _ _ tt c.in_ok-equals.field-0.now _ c.in_ok-equals.ensures (goes_on _ _ _ tt c.in_ok-rest.rest.now _ c.in_ok-rest.ensures (goes_on _ _ _ c.in_ok-value.value c.in_ok-value.rest.now _ c.in_ok-value.ensures (goes_on _ _ _ tt [] _ c.in_ok-ended.ensures (refl))))))))
