use Rattle.std.proofs.Common.{[], refl, sym, append-nil, arith}
use Rattle.std.proofs.lemmas.Result.{err_from_is_err_and}
use Rattle.rel_session.specs.declared.line.Line.TheVariants.{Question, Page, More, NoCommand}
use Rattle.rel_session.specs.Printed.{said_no_command}
use Rattle.rel_session.specs.Sessions.{GoesOnWith}
use Rattle.rel_session.specs.Waiting.{session_of}
use Rattle.rel_session.proofs.Answering.{obeyed, said_dated, said_early, says_bytes, says_nothing}
use Rattle.rel_session.proofs.Running.{Dates-nil}
use Rattle.rel_session.proofs.session.Session.obey.Goals as goal

pub returns-in-Question-clause-said : goal.returns-in-Question-clause-said
returns-in-Question-clause-said g c = obeyed c.ask.result g.R.Reader.reads _ _ _ _ Question _ _ _ _ _ _ c.in-Question.ensures c.ask.ensures.said

pub returns-in-Page-clause-said : goal.returns-in-Page-clause-said
returns-in-Page-clause-said g c = says_bytes _ _ _ _ _ _ _ _ [] (sym (append-nil c.args.out.now)) (Page c.in-Page.size, c.in-Page.ensures, (refl, refl, refl))

pub returns-in-More-clause-said : goal.returns-in-More-clause-said
returns-in-More-clause-said g c =
    let world = (g.M.Machine.told c.args.machine.now).world in
    let Goes = GoesOnWith world c.args.asking.offset (session_of world c.args.self.now) (session_of world c.args.self.now).paused in
    said_dated c.go_on.result _ _ _ _ _ [] _ _ _ (omega arith) (Dates-nil _ _) (λ run s goes. (More, c.in-More.ensures, (refl, goes))) (said_early c.go_on.result Goes Goes _ _ _ (λ run s goes. goes) c.go_on.ensures.said)

pub returns-in_ok-say_no_command-in-NoCommand-clause-said : goal.returns-in_ok-say_no_command-in-NoCommand-clause-said
returns-in_ok-say_no_command-in-NoCommand-clause-said g c =
    says_bytes _ _ _ _ _ _ _ _ said_no_command c.in_ok-say_no_command-in-NoCommand.ensures (NoCommand, c.in-NoCommand.ensures, (refl, refl, refl))

pub returns-in_err-say_no_command-in-NoCommand-clause-said : goal.returns-in_err-say_no_command-in-NoCommand-clause-said
returns-in_err-say_no_command-in-NoCommand-clause-said g c =
    let p = err_from_is_err_and c.from_residual.result c.from_residual.ensures.1 in
    rw p.1 (says_nothing _ _ _ _ _ _ _)
