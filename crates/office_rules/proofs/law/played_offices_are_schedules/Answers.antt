use Rattle.std.proofs.Common.{subst}
use Rattle.std.specs.Prelude.{All}
use Rattle.std.proofs.lemmas.List.Elements.{All-weaker}
use Rattle.delivery.specs.Holdings.{TellsNoConflict}
use Rattle.office_rules.specs.OfficeSchedules.{SaysNoConflict, deployment_of}
use Rattle.office_rules.proofs.PlaySteps.{office_reached, says_no_conflict}
use Rattle.office_rules.proofs.law.played_offices_are_schedules.Goals as goal

pub returns-clause-schedule : goal.returns-clause-schedule
returns-clause-schedule c = office_reached c.turns_are_steps.ensures.turn c.turns_are_steps.ensures.opened

pub returns-clause-words : goal.returns-clause-words
returns-clause-words c = λ orders written o played.
    let reached = office_reached c.turns_are_steps.ensures.turn c.turns_are_steps.ensures.opened orders written o played in
    let held = c.what_is_dropped_is_held.ensures (deployment_of orders) reached.steps reached.schedule in
    All-weaker TellsNoConflict SaysNoConflict says_no_conflict o.messages (subst (All TellsNoConflict) reached.network.messages held.agreed)
