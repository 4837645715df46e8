use Rattle.std.proofs.lemmas.Result.{err_from_is_err_and}
use Rattle.rel_session.proofs.Answering.{line_began, line_written}
use Rattle.rel_session.proofs.session.Session.run_line.Goals as goal

pub returns-in_err-say_line-clause-ran : goal.returns-in_err-say_line-clause-ran
returns-in_err-say_line-clause-ran g c =
    let p = err_from_is_err_and c.from_residual.result c.from_residual.ensures.1 in
    rw p.1 (line_began g.R.Reader.reads _ _ _ _ _ _ _ _ _ _ _ _ c.new-out.ensures c.in_err-say_line.ensures.said)

pub returns-clause-ran : goal.returns-clause-ran
returns-clause-ran g c = line_written c.flush.result g.R.Reader.reads _ _ _ _ _ _ _ _ _ _ _ _ _ _ c.new-out.ensures c.in_ok-say_line.ensures.said c.flush.ensures.written
