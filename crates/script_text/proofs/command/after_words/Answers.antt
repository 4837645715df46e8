use Rattle.std.proofs.lemmas.Result.{err_from_is_err_and}
use Rattle.script_text.specs.Forms.{words, form}
use Rattle.script_text.proofs.FormLemmas.{first_fails, one_goes, gap_fails, second_goes}
use Rattle.script_text.proofs.command.after_words.Goals as goal

pub returns-in_err-rest : goal.returns-in_err-rest
returns-in_err-rest c =
    let p = err_from_is_err_and c.from_residual.result c.from_residual.ensures.1 in
    rw (p.1, p.2) (first_fails (words c.args.kind) (form c.args.kind) c.args.text.now c.word.result.now _ c.word.ensures c.in_err-rest.ensures)

pub returns-in_err-gap-in-Some : goal.returns-in_err-gap-in-Some
returns-in_err-gap-in-Some c =
    let p = err_from_is_err_and c.from_residual-in_err-gap-in-Some.result c.from_residual-in_err-gap-in-Some.ensures.1 in
    rw (p.1, p.2) (gap_fails (words c.args.kind) (form c.args.kind) c.args.text.now c.in_ok-rest.rest.now c.word.result.now c.in-Some.second.now _ c.word.ensures c.in-Some.ensures c.in_ok-rest.ensures c.in_err-gap-in-Some.ensures)

pub returns-in_ok-gap-in-Some : goal.returns-in_ok-gap-in-Some
returns-in_ok-gap-in-Some c =
    second_goes (words c.args.kind) (form c.args.kind) c.args.text.now c.in_ok-rest.rest.now c.in_ok-gap-in-Some.field-0.now c.word.result.now c.in-Some.second.now c.word-in-Some.result c.word.ensures c.in-Some.ensures c.in_ok-rest.ensures c.in_ok-gap-in-Some.ensures c.word-in-Some.ensures

pub returns-in-None : goal.returns-in-None
returns-in-None c = λ outcome h. one_goes (words c.args.kind) (form c.args.kind) c.args.text.now c.in_ok-rest.rest.now c.word.result.now outcome c.word.ensures c.in-None.ensures c.in_ok-rest.ensures h
