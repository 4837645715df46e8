use Rattle.std.proofs.lemmas.Result.{err_from_is_err_and}
use Rattle.script_text.proofs.FormLemmas.{goes_on, fails, fails_later}
use Rattle.script_text.specs.declared.command.Command.TheVariants.{Do}
use Rattle.script_text.specs.declared.line.Line.TheVariants as line
use Rattle.script_text.proofs.forms.read_setting.Goals as goal

pub returns-in_err-gap : goal.returns-in_err-gap
returns-in_err-gap c = let p = err_from_is_err_and c.from_residual.result c.from_residual.ensures.1 in rw (p.1, p.2) (fails _ _ _ _ c.in_err-gap.ensures)

pub returns-in_err-name : goal.returns-in_err-name
returns-in_err-name c = let p = err_from_is_err_and c.from_residual-in_err-name.result c.from_residual-in_err-name.ensures.1 in rw (p.1, p.2) (fails_later _ _ _ tt c.in_ok-gap.field-0.now _ c.in_ok-gap.ensures (fails _ _ _ _ c.in_err-name.ensures))

pub returns-in_err-loose_equals : goal.returns-in_err-loose_equals
returns-in_err-loose_equals c = let p = err_from_is_err_and c.from_residual-in_err-loose_equals.result c.from_residual-in_err-loose_equals.ensures.1 in rw (p.1, p.2) (fails_later _ _ _ tt c.in_ok-gap.field-0.now _ c.in_ok-gap.ensures (fails_later _ _ _ c.in_ok-name.name c.in_ok-name.rest.now _ c.in_ok-name.ensures (fails _ _ _ _ c.in_err-loose_equals.ensures)))

pub returns-in_err-value : goal.returns-in_err-value
returns-in_err-value c = let p = err_from_is_err_and c.from_residual-in_err-value.result c.from_residual-in_err-value.ensures.1 in rw (p.1, p.2) (fails_later _ _ _ tt c.in_ok-gap.field-0.now _ c.in_ok-gap.ensures (fails_later _ _ _ c.in_ok-name.name c.in_ok-name.rest.now _ c.in_ok-name.ensures (fails_later _ _ _ tt c.in_ok-loose_equals.field-0.now _ c.in_ok-loose_equals.ensures (fails _ _ _ _ c.in_err-value.ensures))))

pub returns-in_err-date : goal.returns-in_err-date
returns-in_err-date c = let p = err_from_is_err_and c.from_residual-in_err-date.result c.from_residual-in_err-date.ensures.1 in rw (p.1, p.2) (fails_later _ _ _ tt c.in_ok-gap.field-0.now _ c.in_ok-gap.ensures (fails_later _ _ _ c.in_ok-name.name c.in_ok-name.rest.now _ c.in_ok-name.ensures (fails_later _ _ _ tt c.in_ok-loose_equals.field-0.now _ c.in_ok-loose_equals.ensures (fails_later _ _ _ c.in_ok-value.value c.in_ok-value.rest.now _ c.in_ok-value.ensures (c.in_err-date.ensures (λ date. Do (line.Setting c.in_ok-name.name c.in_ok-value.value date)))))))

pub returns : goal.returns
returns c = goes_on _ _ _ tt c.in_ok-gap.field-0.now _ c.in_ok-gap.ensures (goes_on _ _ _ c.in_ok-name.name c.in_ok-name.rest.now _ c.in_ok-name.ensures (goes_on _ _ _ tt c.in_ok-loose_equals.field-0.now _ c.in_ok-loose_equals.ensures (goes_on _ _ _ c.in_ok-value.value c.in_ok-value.rest.now _ c.in_ok-value.ensures (c.in_ok-date.ensures (λ date. Do (line.Setting c.in_ok-name.name c.in_ok-value.value date))))))
