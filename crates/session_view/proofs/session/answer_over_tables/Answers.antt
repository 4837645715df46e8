use Rattle.rel_session.specs.Lines.{lines_of}
use Rattle.session_view.specs.Asking.{table_devices}
use Rattle.session_view.proofs.Sessions.{ran_over}
use Rattle.session_view.proofs.session.answer_over_tables.Goals as goal

pub returns-clause-ran : goal.returns-clause-ran
returns-clause-ran g c =
    ran_over c.answer_looking.result (lines_of c.args.input.now)
    (table_devices (g.W.Sink.told c.args.sink.now) (g.K.Keeper.told c.args.keeper.now) (g.C.Clock.told c.args.clock.now))
    (table_devices (g.W.Sink.told c.answer_looking.new.sink) (g.K.Keeper.told c.answer_looking.new.keeper) (g.C.Clock.told c.answer_looking.new.clock))
    c.new-looked.result c.answer_looking.new.looked c.new-looked.ensures c.answer_looking.ensures.ran
