use Rattle.std.proofs.Common.{◌∙◌}
use Rattle.std.proofs.lemmas.Result.{on_ok_weaker}
use Rattle.office_play.specs.States.{kept_of}
use Rattle.office_play.proofs.Arrivals.{notes_none}
use Rattle.office_play.proofs.office.Office.note.Goals as goal

pub returns-in-None-clause-plays : goal.returns-in-None-clause-plays
returns-in-None-clause-plays c =
    on_ok_weaker c.say_delivered.result
    (λ said digest reply held. notes_none (kept_of c.args.self.now) c.args.relay.now (record { computer = c.args.computer.now; seq = c.args.seq }) digest reply
    c.args.number c.args.out.now _ c.requires.relay c.requires.good (held ∙ c.in-None.is) said)
    c.say_delivered.ensures
