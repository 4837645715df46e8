use Rattle.std.proofs.Common.{subst}
use Rattle.std.proofs.lemmas.Result.{on_ok_weaker}
use Rattle.office_play.specs.Aiming.{IsAimedAt}
use Rattle.office_play.specs.States.{kept_of}
use Rattle.office_play.proofs.GroupWords.{targets, targets_none}
use Rattle.office_play.proofs.office.Office.target.Goals as goal

pub returns-in-Some-clause-plays : goal.returns-in-Some-clause-plays
returns-in-Some-clause-plays c =
    let group = c.args.group.now in
    let action = c.args.action.now in
    let at = subst (IsAimedAt c.args.self.now.book group action) c.in-Some.is c.in_ok-text.ensures in
    on_ok_weaker c.ask.result
    (λ p. targets (kept_of c.args.self.now) (kept_of c.ask.new.self) group action at.0 at.1 c.in-Some.text c.args.out.now c.ask.new.out at.2 at.3 p)
    c.ask.ensures.plays

pub returns-in-None-clause-plays : goal.returns-in-None-clause-plays
returns-in-None-clause-plays c =
    let group = c.args.group.now in
    let action = c.args.action.now in
    let none = subst (IsAimedAt c.args.self.now.book group action) c.in-None.is c.in_ok-text.ensures in
    on_ok_weaker c.say_about.result (λ said. targets_none (kept_of c.args.self.now) group action c.args.out.now c.say_about.new.out c.requires none said)
    c.say_about.ensures
