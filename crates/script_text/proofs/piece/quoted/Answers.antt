use Rattle.std.proofs.lemmas.Result.{err_from_is_err_and}
use Rattle.script_text.proofs.PieceLemmas.{quoted_fails}
use Rattle.script_text.proofs.piece.quoted.Goals as goal

pub returns-in_err-template : goal.returns-in_err-template
returns-in_err-template c =
    let p = err_from_is_err_and c.from_residual.result c.from_residual.ensures.1 in
    rw (p.1, p.2) (quoted_fails c.args.text.now c.in-Some.inner.now _ c.in-Some.ensures c.in_err-template.ensures)
