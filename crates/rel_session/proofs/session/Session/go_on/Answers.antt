use Rattle.std.proofs.Common.{sym, ◌∙◌, map}
use Rattle.std.proofs.lemmas.Result.{err_from_is_err_and}
use Rattle.rel_session.specs.Printed.{said_nothing_paused}
use Rattle.rel_session.specs.Sessions.{GoesOnWith, IsGiven, TellsOf, saying}
use Rattle.rel_session.specs.Waiting.{left_of, paused_of, session_of}
use Rattle.rel_session.proofs.Answering.{Says-bytes, Stops-nothing, goes_on_nowhere, goes_on_popped, said_as}
use Rattle.rel_session.proofs.session.Session.go_on.Goals as goal

pub returns-in-Some-clause-said : goal.returns-in-Some-clause-said
returns-in-Some-clause-said g c =
    let world = (g.M.Machine.told c.args.machine.now).world in
    said_as c.tell.result (TellsOf c.args.asking.offset (record { page = c.args.self.now.page; paused = map (paused_of world) c.pop.new.self.items }) (IsGiven world (left_of c.in-Some.latest.cursor)) c.in-Some.latest.span) (GoesOnWith world c.args.asking.offset (session_of world c.args.self.now) (session_of world c.args.self.now).paused) _ _ _
    (λ run s tells. goes_on_popped _ world _ _ _ _ run s c.in-Some.ensures.items tells) c.tell.ensures.said

pub returns-in_ok-say_nothing_paused-in-None-clause-said : goal.returns-in_ok-say_nothing_paused-in-None-clause-said
returns-in_ok-say_nothing_paused-in-None-clause-said g c =
    let none = goes_on_nowhere _ (g.M.Machine.told c.args.machine.now).world _ _ _ c.in-None.ensures.items (sym c.args.self.now.paused.ok.0 ∙ c.in-None.ensures.cases.0) in
    (saying said_nothing_paused, none, Says-bytes _ _ _ _ said_nothing_paused c.in_ok-say_nothing_paused-in-None.ensures)

pub returns-in_err-say_nothing_paused-in-None-clause-said : goal.returns-in_err-say_nothing_paused-in-None-clause-said
returns-in_err-say_nothing_paused-in-None-clause-said g c =
    let none = goes_on_nowhere _ (g.M.Machine.told c.args.machine.now).world _ _ _ c.in-None.ensures.items (sym c.args.self.now.paused.ok.0 ∙ c.in-None.ensures.cases.0) in
    let p = err_from_is_err_and c.from_residual.result c.from_residual.ensures.1 in
    rw p.1 (saying said_nothing_paused, _, none, Stops-nothing _ _ _ _ said_nothing_paused)
