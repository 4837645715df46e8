use Rattle.std.proofs.Common.{[], refl}
use Rattle.std.proofs.lemmas.Result.{err_from_is_err_and}
use Rattle.script_text.proofs.FormLemmas.{goes_on, fails, fails_later, no_memory}
use Rattle.script_text.proofs.forms.read_prefetch.Goals as goal

pub returns-in_err-gap : goal.returns-in_err-gap
returns-in_err-gap c = λ make. let p = err_from_is_err_and c.from_residual.result c.from_residual.ensures.1 in rw (p.1, p.2) (fails _ _ _ _ c.in_err-gap.ensures)

pub returns-in_err-name : goal.returns-in_err-name
returns-in_err-name c = λ make. let p = err_from_is_err_and c.from_residual-in_err-name.result c.from_residual-in_err-name.ensures.1 in rw (p.1, p.2) (fails_later _ _ _ tt c.in_ok-gap.field-0.now _ c.in_ok-gap.ensures (fails _ _ _ _ c.in_err-name.ensures))

pub returns-in_err-gap-2 : goal.returns-in_err-gap-2
returns-in_err-gap-2 c = λ make. let p = err_from_is_err_and c.from_residual-in_err-gap-2.result c.from_residual-in_err-gap-2.ensures.1 in rw (p.1, p.2) (fails_later _ _ _ tt c.in_ok-gap.field-0.now _ c.in_ok-gap.ensures (fails_later _ _ _ c.in_ok-name.name.now c.in_ok-name.rest.now _ c.in_ok-name.ensures (fails _ _ _ _ c.in_err-gap-2.ensures)))

pub returns-in_err-sha1 : goal.returns-in_err-sha1
returns-in_err-sha1 c = λ make. let p = err_from_is_err_and c.from_residual-in_err-sha1.result c.from_residual-in_err-sha1.ensures.1 in rw (p.1, p.2) (fails_later _ _ _ tt c.in_ok-gap.field-0.now _ c.in_ok-gap.ensures (fails_later _ _ _ c.in_ok-name.name.now c.in_ok-name.rest.now _ c.in_ok-name.ensures (fails_later _ _ _ tt c.in_ok-gap-2.field-0.now _ c.in_ok-gap-2.ensures (fails _ _ _ _ c.in_err-sha1.ensures))))

pub returns-in_err-gap-3 : goal.returns-in_err-gap-3
returns-in_err-gap-3 c = λ make. let p = err_from_is_err_and c.from_residual-in_err-gap-3.result c.from_residual-in_err-gap-3.ensures.1 in rw (p.1, p.2) (fails_later _ _ _ tt c.in_ok-gap.field-0.now _ c.in_ok-gap.ensures (fails_later _ _ _ c.in_ok-name.name.now c.in_ok-name.rest.now _ c.in_ok-name.ensures (fails_later _ _ _ tt c.in_ok-gap-2.field-0.now _ c.in_ok-gap-2.ensures (fails_later _ _ _ c.in_ok-sha1.sha1 c.in_ok-sha1.rest.now _ c.in_ok-sha1.ensures (fails _ _ _ _ c.in_err-gap-3.ensures)))))

pub returns-in_err-size : goal.returns-in_err-size
returns-in_err-size c = λ make. let p = err_from_is_err_and c.from_residual-in_err-size.result c.from_residual-in_err-size.ensures.1 in rw (p.1, p.2) (fails_later _ _ _ tt c.in_ok-gap.field-0.now _ c.in_ok-gap.ensures (fails_later _ _ _ c.in_ok-name.name.now c.in_ok-name.rest.now _ c.in_ok-name.ensures (fails_later _ _ _ tt c.in_ok-gap-2.field-0.now _ c.in_ok-gap-2.ensures (fails_later _ _ _ c.in_ok-sha1.sha1 c.in_ok-sha1.rest.now _ c.in_ok-sha1.ensures (fails_later _ _ _ tt c.in_ok-gap-3.field-0.now _ c.in_ok-gap-3.ensures (fails _ _ _ _ c.in_err-size.ensures))))))

pub returns-in_err-gap-4 : goal.returns-in_err-gap-4
returns-in_err-gap-4 c = λ make. let p = err_from_is_err_and c.from_residual-in_err-gap-4.result c.from_residual-in_err-gap-4.ensures.1 in rw (p.1, p.2) (fails_later _ _ _ tt c.in_ok-gap.field-0.now _ c.in_ok-gap.ensures (fails_later _ _ _ c.in_ok-name.name.now c.in_ok-name.rest.now _ c.in_ok-name.ensures (fails_later _ _ _ tt c.in_ok-gap-2.field-0.now _ c.in_ok-gap-2.ensures (fails_later _ _ _ c.in_ok-sha1.sha1 c.in_ok-sha1.rest.now _ c.in_ok-sha1.ensures (fails_later _ _ _ tt c.in_ok-gap-3.field-0.now _ c.in_ok-gap-3.ensures (fails_later _ _ _ c.in_ok-size.size c.in_ok-size.rest.now _ c.in_ok-size.ensures (fails _ _ _ _ c.in_err-gap-4.ensures)))))))

pub returns-in_err-url : goal.returns-in_err-url
returns-in_err-url c = λ make. let p = err_from_is_err_and c.from_residual-in_err-url.result c.from_residual-in_err-url.ensures.1 in rw (p.1, p.2) (fails_later _ _ _ tt c.in_ok-gap.field-0.now _ c.in_ok-gap.ensures (fails_later _ _ _ c.in_ok-name.name.now c.in_ok-name.rest.now _ c.in_ok-name.ensures (fails_later _ _ _ tt c.in_ok-gap-2.field-0.now _ c.in_ok-gap-2.ensures (fails_later _ _ _ c.in_ok-sha1.sha1 c.in_ok-sha1.rest.now _ c.in_ok-sha1.ensures (fails_later _ _ _ tt c.in_ok-gap-3.field-0.now _ c.in_ok-gap-3.ensures (fails_later _ _ _ c.in_ok-size.size c.in_ok-size.rest.now _ c.in_ok-size.ensures (fails_later _ _ _ tt c.in_ok-gap-4.field-0.now _ c.in_ok-gap-4.ensures (fails _ _ _ _ c.in_err-url.ensures))))))))

pub returns-in_err-gap-5 : goal.returns-in_err-gap-5
returns-in_err-gap-5 c = λ make. let p = err_from_is_err_and c.from_residual-in_err-gap-5.result c.from_residual-in_err-gap-5.ensures.1 in rw (p.1, p.2) (fails_later _ _ _ tt c.in_ok-gap.field-0.now _ c.in_ok-gap.ensures (fails_later _ _ _ c.in_ok-name.name.now c.in_ok-name.rest.now _ c.in_ok-name.ensures (fails_later _ _ _ tt c.in_ok-gap-2.field-0.now _ c.in_ok-gap-2.ensures (fails_later _ _ _ c.in_ok-sha1.sha1 c.in_ok-sha1.rest.now _ c.in_ok-sha1.ensures (fails_later _ _ _ tt c.in_ok-gap-3.field-0.now _ c.in_ok-gap-3.ensures (fails_later _ _ _ c.in_ok-size.size c.in_ok-size.rest.now _ c.in_ok-size.ensures (fails_later _ _ _ tt c.in_ok-gap-4.field-0.now _ c.in_ok-gap-4.ensures (fails_later _ _ _ c.in_ok-url.url.now c.in_ok-url.rest.now _ c.in_ok-url.ensures (fails _ _ _ _ c.in_err-gap-5.ensures)))))))))

pub returns-in_err-sha256 : goal.returns-in_err-sha256
returns-in_err-sha256 c = λ make. let p = err_from_is_err_and c.from_residual-in_err-sha256.result c.from_residual-in_err-sha256.ensures.1 in rw (p.1, p.2) (fails_later _ _ _ tt c.in_ok-gap.field-0.now _ c.in_ok-gap.ensures (fails_later _ _ _ c.in_ok-name.name.now c.in_ok-name.rest.now _ c.in_ok-name.ensures (fails_later _ _ _ tt c.in_ok-gap-2.field-0.now _ c.in_ok-gap-2.ensures (fails_later _ _ _ c.in_ok-sha1.sha1 c.in_ok-sha1.rest.now _ c.in_ok-sha1.ensures (fails_later _ _ _ tt c.in_ok-gap-3.field-0.now _ c.in_ok-gap-3.ensures (fails_later _ _ _ c.in_ok-size.size c.in_ok-size.rest.now _ c.in_ok-size.ensures (fails_later _ _ _ tt c.in_ok-gap-4.field-0.now _ c.in_ok-gap-4.ensures (fails_later _ _ _ c.in_ok-url.url.now c.in_ok-url.rest.now _ c.in_ok-url.ensures (fails_later _ _ _ tt c.in_ok-gap-5.field-0.now _ c.in_ok-gap-5.ensures (fails _ _ _ _ c.in_err-sha256.ensures))))))))))

pub returns-in_err-ended : goal.returns-in_err-ended
returns-in_err-ended c = λ make. let p = err_from_is_err_and c.from_residual-in_err-ended.result c.from_residual-in_err-ended.ensures.1 in rw (p.1, p.2) (fails_later _ _ _ tt c.in_ok-gap.field-0.now _ c.in_ok-gap.ensures (fails_later _ _ _ c.in_ok-name.name.now c.in_ok-name.rest.now _ c.in_ok-name.ensures (fails_later _ _ _ tt c.in_ok-gap-2.field-0.now _ c.in_ok-gap-2.ensures (fails_later _ _ _ c.in_ok-sha1.sha1 c.in_ok-sha1.rest.now _ c.in_ok-sha1.ensures (fails_later _ _ _ tt c.in_ok-gap-3.field-0.now _ c.in_ok-gap-3.ensures (fails_later _ _ _ c.in_ok-size.size c.in_ok-size.rest.now _ c.in_ok-size.ensures (fails_later _ _ _ tt c.in_ok-gap-4.field-0.now _ c.in_ok-gap-4.ensures (fails_later _ _ _ c.in_ok-url.url.now c.in_ok-url.rest.now _ c.in_ok-url.ensures (fails_later _ _ _ tt c.in_ok-gap-5.field-0.now _ c.in_ok-gap-5.ensures (fails_later _ _ _ c.in_ok-sha256.sha256 c.in_ok-sha256.rest.now _ c.in_ok-sha256.ensures (fails _ _ _ _ c.in_err-ended.ensures)))))))))))

pub returns-in_err-name-2 : goal.returns-in_err-name-2
returns-in_err-name-2 c = λ make. let p = err_from_is_err_and c.from_residual-in_err-name-2.result c.from_residual-in_err-name-2.ensures.1 in rw (p.1, p.2) (no_memory _ _)

pub returns-in_err-url-2 : goal.returns-in_err-url-2
returns-in_err-url-2 c = λ make. let p = err_from_is_err_and c.from_residual-in_err-url-2.result c.from_residual-in_err-url-2.ensures.1 in rw (p.1, p.2) (no_memory _ _)

pub returns : goal.returns
returns c = λ make. rw (c.in_ok-name-2.ensures, c.in_ok-url-2.ensures) (goes_on _ _ _ tt c.in_ok-gap.field-0.now _ c.in_ok-gap.ensures (goes_on _ _ _ c.in_ok-name.name.now c.in_ok-name.rest.now _ c.in_ok-name.ensures (goes_on _ _ _ tt c.in_ok-gap-2.field-0.now _ c.in_ok-gap-2.ensures (goes_on _ _ _ c.in_ok-sha1.sha1 c.in_ok-sha1.rest.now _ c.in_ok-sha1.ensures (goes_on _ _ _ tt c.in_ok-gap-3.field-0.now _ c.in_ok-gap-3.ensures (goes_on _ _ _ c.in_ok-size.size c.in_ok-size.rest.now _ c.in_ok-size.ensures (goes_on _ _ _ tt c.in_ok-gap-4.field-0.now _ c.in_ok-gap-4.ensures (goes_on _ _ _ c.in_ok-url.url.now c.in_ok-url.rest.now _ c.in_ok-url.ensures (goes_on _ _ _ tt c.in_ok-gap-5.field-0.now _ c.in_ok-gap-5.ensures (goes_on _ _ _ c.in_ok-sha256.sha256 c.in_ok-sha256.rest.now _ c.in_ok-sha256.ensures (goes_on _ _ _ tt [] _ c.in_ok-ended.ensures (refl))))))))))))
