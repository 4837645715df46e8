use Rattle.std.proofs.Common.{inl}
use Rattle.std.proofs.lemmas.Result.{err_from_is_err_and}
use Rattle.rel_session.specs.Sessions.{AnswersText, IsGiven, TellsOf}
use Rattle.rel_session.specs.Waiting.{left_of, session_of}
use Rattle.rel_session.proofs.Answering.{Unwritten-refl, answers_question, answers_refusal, said_early}
use Rattle.rel_session.proofs.session.Session.answer.Goals as goal

pub returns-in-Err-clause-said : goal.returns-in-Err-clause-said
returns-in-Err-clause-said g c =
    answers_refusal g.R.Reader.reads _ _ _ _ _ c.in-Err.refusal _ _ _ _ c.in-Err.ensures c.in_ok-say_refusal-in-Err.ensures

pub returns-in_err-say_refusal-in-Err-clause-said : goal.returns-in_err-say_refusal-in-Err-clause-said
returns-in_err-say_refusal-in-Err-clause-said g c =
    let p = err_from_is_err_and c.from_residual.result c.from_residual.ensures.1 in
    rw p.1 (inl (Unwritten-refl _ _ _ _))

pub returns-clause-said : goal.returns-clause-said
returns-clause-said g c =
    let world = (g.M.Machine.told c.args.machine.now).world in
    said_early c.tell.result (TellsOf c.args.asked.asking.offset (session_of world c.args.self.now) (IsGiven world (left_of c.in-Ok.opened.cursor)) c.in-Ok.opened.span) (AnswersText g.R.Reader.reads world c.args.asked.moment c.args.asked.asking.offset (session_of world c.args.self.now) c.args.text.now) _ _ _
    (λ run s tells. answers_question g.R.Reader.reads world _ _ _ _ c.in-Ok.opened run s c.in-Ok.ensures tells) c.tell.ensures.said
