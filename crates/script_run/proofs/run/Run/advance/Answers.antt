use Rattle.std.proofs.Common.{◌≡◌, SFits, w64, ap}
use Rattle.std.proofs.lemmas.Int.{to_z-of_z}
use Rattle.script_run.specs.Asking.{When, when_of, known_in}
use Rattle.script_run.specs.RunPlaces.{around, from}
use Rattle.script_run.proofs.Rounds.{advances, advances_again, stop_later}
use Rattle.script_run.proofs.run.Run.advance.Goals as goal

pub returns-clause-goes_on : goal.returns-clause-goes_on
returns-clause-goes_on g c = λ script given settled stood.
    let at : When = record { moment = c.args.moment; offset = c.args.offset } in
    let moment : SFits w64 c.args.moment = c.ranges.moment in
    let offset : SFits w64 c.args.offset = c.ranges.offset in
    let time : when_of c.set_time.new.self.scene ≡ at = simp to_z-of_z at (ap when_of c.set_time.ensures) in
    let s = c.rounds.ensures.step in
    advances at script given settled _ _ _ c.args.self.now.place (around c.args.self.now) c.args.self.now.kept.scene c.set_time.new.self.scene c.rounds.new.self
    (ap known_in c.set_time.ensures) time stood s.steps s.rests.1

pub returns-clause-later : goal.returns-clause-later
returns-clause-later g c = stop_later _ _ _ _ _ (from c.rounds.new.self) c.rounds.ensures.step.steps

pub returns-clause-again : goal.returns-clause-again
returns-clause-again g c = λ digest wants.
    advances_again digest _ c.rounds.result _ c.args.self.now.place (around c.args.self.now) c.args.self.now.kept.scene c.set_time.new.self.scene (from c.rounds.new.self)
    (ap known_in c.set_time.ensures) wants c.rounds.ensures.again
