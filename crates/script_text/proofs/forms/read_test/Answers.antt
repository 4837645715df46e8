use Rattle.std.proofs.Common.{[], refl}
use Rattle.std.proofs.lemmas.Result.{err_from_is_err_and}
use Rattle.script_text.proofs.FormLemmas.{goes_on, fails, fails_later, no_memory}
use Rattle.script_text.proofs.forms.read_test.Goals as goal

pub returns-in_err-gap : goal.returns-in_err-gap
returns-in_err-gap c = λ make. let p = err_from_is_err_and c.from_residual.result c.from_residual.ensures.1 in rw (p.1, p.2) (fails _ _ _ _ c.in_err-gap.ensures)

pub returns-in_err-test : goal.returns-in_err-test
returns-in_err-test c = λ make. let p = err_from_is_err_and c.from_residual-in_err-test.result c.from_residual-in_err-test.ensures.1 in rw (p.1, p.2) (fails_later _ _ _ tt c.in_ok-gap.field-0.now _ c.in_ok-gap.ensures (fails _ _ _ _ c.in_err-test.ensures))

pub returns-in_err-ended : goal.returns-in_err-ended
returns-in_err-ended c = λ make. let p = err_from_is_err_and c.from_residual-in_err-ended.result c.from_residual-in_err-ended.ensures.1 in rw (p.1, p.2) (fails_later _ _ _ tt c.in_ok-gap.field-0.now _ c.in_ok-gap.ensures (fails_later _ _ _ c.in_ok-test.test.now c.in_ok-test.rest.now _ c.in_ok-test.ensures (fails _ _ _ _ c.in_err-ended.ensures)))

pub returns-in_err-from_str : goal.returns-in_err-from_str
returns-in_err-from_str c = λ make. let p = err_from_is_err_and c.from_residual-in_err-from_str.result c.from_residual-in_err-from_str.ensures.1 in rw (p.1, p.2) (no_memory _ _)

pub returns : goal.returns
returns c = λ make. rw (c.in_ok-from_str.ensures) (goes_on _ _ _ tt c.in_ok-gap.field-0.now _ c.in_ok-gap.ensures (goes_on _ _ _ c.in_ok-test.test.now c.in_ok-test.rest.now _ c.in_ok-test.ensures (goes_on _ _ _ tt [] _ c.in_ok-ended.ensures (refl))))
