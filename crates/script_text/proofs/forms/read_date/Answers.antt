use Rattle.std.proofs.Common.{[], refl}
use Rattle.std.proofs.lemmas.Result.{err_from_is_err_and}
use Rattle.script_text.proofs.FormLemmas.{goes_on, fails, fails_later}
use Rattle.script_text.proofs.forms.read_date.Goals as goal

pub returns-in_err-gap : goal.returns-in_err-gap
returns-in_err-gap c = λ make. let p = err_from_is_err_and c.from_residual.result c.from_residual.ensures.1 in rw (p.1, p.2) (fails _ _ _ _ c.in_err-gap.ensures)

pub returns-in_err-word : goal.returns-in_err-word
returns-in_err-word c = λ make. let p = err_from_is_err_and c.from_residual-in_err-word.result c.from_residual-in_err-word.ensures.1 in rw (p.1, p.2) (fails_later _ _ _ tt c.in_ok-gap.field-0.now _ c.in_ok-gap.ensures (fails _ _ _ _ c.in_err-word.ensures))

pub returns-in_err-rest : goal.returns-in_err-rest
returns-in_err-rest c = λ make. let p = err_from_is_err_and c.from_residual-in_err-rest.result c.from_residual-in_err-rest.ensures.1 in rw (p.1, p.2) (fails_later _ _ _ tt c.in_ok-gap.field-0.now _ c.in_ok-gap.ensures (fails_later _ _ _ tt c.in_ok-word.field-0.now _ c.in_ok-word.ensures (fails _ _ _ _ c.in_err-rest.ensures)))

pub returns-in_err-date : goal.returns-in_err-date
returns-in_err-date c = λ make. let p = err_from_is_err_and c.from_residual-in_err-date.result c.from_residual-in_err-date.ensures.1 in rw (p.1, p.2) (fails_later _ _ _ tt c.in_ok-gap.field-0.now _ c.in_ok-gap.ensures (fails_later _ _ _ tt c.in_ok-word.field-0.now _ c.in_ok-word.ensures (fails_later _ _ _ tt c.in_ok-rest.rest.now _ c.in_ok-rest.ensures (fails _ _ _ _ c.in_err-date.ensures))))

pub returns-in_err-gap-2 : goal.returns-in_err-gap-2
returns-in_err-gap-2 c = λ make. let p = err_from_is_err_and c.from_residual-in_err-gap-2.result c.from_residual-in_err-gap-2.ensures.1 in rw (p.1, p.2) (fails_later _ _ _ tt c.in_ok-gap.field-0.now _ c.in_ok-gap.ensures (fails_later _ _ _ tt c.in_ok-word.field-0.now _ c.in_ok-word.ensures (fails_later _ _ _ tt c.in_ok-rest.rest.now _ c.in_ok-rest.ensures (fails_later _ _ _ c.in_ok-date.date c.in_ok-date.rest.now _ c.in_ok-date.ensures (fails _ _ _ _ c.in_err-gap-2.ensures)))))

pub returns-in_err-word-2 : goal.returns-in_err-word-2
returns-in_err-word-2 c = λ make. let p = err_from_is_err_and c.from_residual-in_err-word-2.result c.from_residual-in_err-word-2.ensures.1 in rw (p.1, p.2) (fails_later _ _ _ tt c.in_ok-gap.field-0.now _ c.in_ok-gap.ensures (fails_later _ _ _ tt c.in_ok-word.field-0.now _ c.in_ok-word.ensures (fails_later _ _ _ tt c.in_ok-rest.rest.now _ c.in_ok-rest.ensures (fails_later _ _ _ c.in_ok-date.date c.in_ok-date.rest.now _ c.in_ok-date.ensures (fails_later _ _ _ tt c.in_ok-gap-2.field-0.now _ c.in_ok-gap-2.ensures (fails _ _ _ _ c.in_err-word-2.ensures))))))

pub returns-in_err-rest-2 : goal.returns-in_err-rest-2
returns-in_err-rest-2 c = λ make. let p = err_from_is_err_and c.from_residual-in_err-rest-2.result c.from_residual-in_err-rest-2.ensures.1 in rw (p.1, p.2) (fails_later _ _ _ tt c.in_ok-gap.field-0.now _ c.in_ok-gap.ensures (fails_later _ _ _ tt c.in_ok-word.field-0.now _ c.in_ok-word.ensures (fails_later _ _ _ tt c.in_ok-rest.rest.now _ c.in_ok-rest.ensures (fails_later _ _ _ c.in_ok-date.date c.in_ok-date.rest.now _ c.in_ok-date.ensures (fails_later _ _ _ tt c.in_ok-gap-2.field-0.now _ c.in_ok-gap-2.ensures (fails_later _ _ _ tt c.in_ok-word-2.field-0.now _ c.in_ok-word-2.ensures (fails _ _ _ _ c.in_err-rest-2.ensures)))))))

pub returns-in_err-word-3 : goal.returns-in_err-word-3
returns-in_err-word-3 c = λ make. let p = err_from_is_err_and c.from_residual-in_err-word-3.result c.from_residual-in_err-word-3.ensures.1 in rw (p.1, p.2) (fails_later _ _ _ tt c.in_ok-gap.field-0.now _ c.in_ok-gap.ensures (fails_later _ _ _ tt c.in_ok-word.field-0.now _ c.in_ok-word.ensures (fails_later _ _ _ tt c.in_ok-rest.rest.now _ c.in_ok-rest.ensures (fails_later _ _ _ c.in_ok-date.date c.in_ok-date.rest.now _ c.in_ok-date.ensures (fails_later _ _ _ tt c.in_ok-gap-2.field-0.now _ c.in_ok-gap-2.ensures (fails_later _ _ _ tt c.in_ok-word-2.field-0.now _ c.in_ok-word-2.ensures (fails_later _ _ _ tt c.in_ok-rest-2.rest.now _ c.in_ok-rest-2.ensures (fails _ _ _ _ c.in_err-word-3.ensures))))))))

pub returns-in_err-ended : goal.returns-in_err-ended
returns-in_err-ended c = λ make. let p = err_from_is_err_and c.from_residual-in_err-ended.result c.from_residual-in_err-ended.ensures.1 in rw (p.1, p.2) (fails_later _ _ _ tt c.in_ok-gap.field-0.now _ c.in_ok-gap.ensures (fails_later _ _ _ tt c.in_ok-word.field-0.now _ c.in_ok-word.ensures (fails_later _ _ _ tt c.in_ok-rest.rest.now _ c.in_ok-rest.ensures (fails_later _ _ _ c.in_ok-date.date c.in_ok-date.rest.now _ c.in_ok-date.ensures (fails_later _ _ _ tt c.in_ok-gap-2.field-0.now _ c.in_ok-gap-2.ensures (fails_later _ _ _ tt c.in_ok-word-2.field-0.now _ c.in_ok-word-2.ensures (fails_later _ _ _ tt c.in_ok-rest-2.rest.now _ c.in_ok-rest-2.ensures (fails_later _ _ _ tt c.in_ok-word-3.field-0.now _ c.in_ok-word-3.ensures (fails _ _ _ _ c.in_err-ended.ensures)))))))))

pub returns : goal.returns
returns c = λ make. goes_on _ _ _ tt c.in_ok-gap.field-0.now _ c.in_ok-gap.ensures (goes_on _ _ _ tt c.in_ok-word.field-0.now _ c.in_ok-word.ensures (goes_on _ _ _ tt c.in_ok-rest.rest.now _ c.in_ok-rest.ensures (goes_on _ _ _ c.in_ok-date.date c.in_ok-date.rest.now _ c.in_ok-date.ensures (goes_on _ _ _ tt c.in_ok-gap-2.field-0.now _ c.in_ok-gap-2.ensures (goes_on _ _ _ tt c.in_ok-word-2.field-0.now _ c.in_ok-word-2.ensures (goes_on _ _ _ tt c.in_ok-rest-2.rest.now _ c.in_ok-rest-2.ensures (goes_on _ _ _ tt c.in_ok-word-3.field-0.now _ c.in_ok-word-3.ensures (goes_on _ _ _ tt [] _ c.in_ok-ended.ensures (refl)))))))))
