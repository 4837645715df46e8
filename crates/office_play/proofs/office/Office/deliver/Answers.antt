use Rattle.std.proofs.Common.{◌≡◌, Some, sym, ap, ◌∙◌}
use Rattle.std.specs.Option.{option_map}
use Rattle.std.proofs.lemmas.Result.{on_ok_weaker}
use Rattle.delivery.specs.Schedules.{message_at}
use Rattle.office_play.specs.Shown.{shown_message}
use Rattle.office_play.specs.States.{kept_of}
use Rattle.office_play.proofs.MessageWords.{delivers_found}
use Rattle.office_play.proofs.office.Office.deliver.Goals as goal

pub returns-in-Some-clause-plays : goal.returns-in-Some-clause-plays
returns-in-Some-clause-plays c =
    let there : message_at c.args.number c.args.self.now.messages ≡ Some (shown_message c.in-Some.message) =
    sym c.in_ok-message.ensures ∙ ap (option_map shown_message) c.in-Some.is in
    on_ok_weaker c.arrive.result
    (λ p. delivers_found (kept_of c.args.self.now) (kept_of c.arrive.new.self) c.args.number (shown_message c.in-Some.message) c.args.out.now c.arrive.new.out there p)
    c.arrive.ensures.plays
