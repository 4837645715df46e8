use Rattle.std.proofs.Common.{◌≡◌, Some, take}
use Rattle.relay_core.specs.Relays.{RelayState}
use Rattle.delivery.specs.Messages.{named}
use Rattle.office_rules.specs.Deeds.{DoesEach}
use Rattle.office_play.specs.Links.{KeepsNames}
use Rattle.office_play.specs.Messages.{DispatchesToServer}
use Rattle.office_play.specs.Played.{Plays}
use Rattle.office_play.specs.States.{kept_of}
use Rattle.office_play.proofs.office.Office.push.Given as goal

-- the reports of the queue so far were sent
abbrev pub invariant-loop-at : goal.invariant-loop-at
invariant-loop-at l = record {
  relays : (kept_of l.self).relays ≡ (kept_of l.fn.self).relays;
  names : KeepsNames (kept_of l.fn.self) (kept_of l.self);
  plays : (relay : RelayState) → named l.name (kept_of l.fn.self).relays ≡ Some relay
      → Plays (DoesEach (DispatchesToServer l.name) (take l.at relay.queue)) (kept_of l.fn.self) l.fn.out (kept_of l.self) l.out;
}
