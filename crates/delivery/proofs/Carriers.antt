-- What becomes of a relay's queue and known keys rests on its carrier alone.
use Rattle.std.specs.Prelude.{◌≡◌, ℕ, true, false, cond, List, [], ◌∷◌, ◌++◌, Some, None}
use Rattle.std.specs.declared.option.Option.{Option}
use Rattle.std.proofs.Common.{refl}
use Rattle.report_text.specs.declared.report.Report.{Report}
use Rattle.relay_core.specs.ReportKeys.{ReportKey, held_digest, key_of, queued_digest}
use Rattle.relay_core.specs.Relays.{RelayState}
use Rattle.relay_core.specs.ReportsUp.{after_sent, after_up, has_place, held_verdict, is_queued, queue_verdict, up_verdict, with_held, without}
use Rattle.delivery.specs.Messages.{carrier_of, relay_of}
use Rattle.delivery.specs.Arrivals.{carried, told}

module _ (relay : RelayState) where
  abbrev bare : RelayState
  bare = relay_of (carrier_of relay)

  queue_alike : (report : Report) (queued : Option (List ℕ)) → queue_verdict queued bare report ≡ queue_verdict queued relay report
  queue_alike report (Some digest) = refl
  queue_alike report None = refl

  held_alike : (report : Report) (held : Option (List ℕ)) → held_verdict held bare report ≡ held_verdict held relay report
  held_alike report (Some digest) = refl
  held_alike report None = queue_alike report (queued_digest relay.queue (key_of report))

  pub verdict_alike : (report : Report) → up_verdict bare report ≡ up_verdict relay report
  verdict_alike report = held_alike report (held_digest relay.held (key_of report))

  pub carried_alike : (report : Report) → carried report (carrier_of relay) ≡ carrier_of (after_up relay report)
  carried_alike report =
      elim (has_place relay (key_of report)) as (λ b. carrier_of (cond b (record bare { queue = relay.queue ++ report ∷ [] }) bare)
      ≡ carrier_of (cond b (record relay { queue = relay.queue ++ report ∷ [] }) relay)) [
        | true ↦ refl
        | false ↦ refl
      ]

  pub told_alike : (key : ReportKey) (digest : List ℕ) → told key (Some digest) (carrier_of relay) ≡ carrier_of (after_sent relay key digest)
  told_alike key digest =
      elim (is_queued relay key) as (λ b.
      carrier_of (cond b (record bare { queue = without key relay.queue; held = with_held key digest relay.held }) bare)
      ≡ carrier_of (cond b (record relay { queue = without key relay.queue; held = with_held key digest relay.held }) relay)) [
        | true ↦ refl
        | false ↦ refl
      ]
