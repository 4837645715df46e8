use Rattle.std.proofs.lemmas.Result.{err_from_is_err_and}
use Rattle.rel_session.proofs.Answering.{line_said, says_nothing}
use Rattle.rel_session.proofs.session.Session.say_line.Goals as goal

pub returns-in_err-say_question-clause-said : goal.returns-in_err-say_question-clause-said
returns-in_err-say_question-clause-said g c =
    let p = err_from_is_err_and c.from_residual.result c.from_residual.ensures.1 in
    rw p.1 (says_nothing _ _ _ _ _ _ _)

pub returns-clause-said : goal.returns-clause-said
returns-clause-said g c = line_said c.obey.result g.R.Reader.reads _ _ _ _ _ _ _ _ _ _ _ _ _ c.in_ok-say_question.ensures c.obey.ensures.said
