-- What becomes of messages, as they are kept.
use Rattle.std.specs.Prelude.{◌≡◌, ℕ, List, slice_get, codes, Some}
use Rattle.report_text.specs.declared.report.Report.{Report}
use Rattle.relay_core.specs.Relays.{RelayState}
use Rattle.delivery.specs.Messages.{ReportToServer, named}
use Rattle.office_rules.specs.Deeds.{Deed}
use Rattle.office_rules.specs.MessageWords.{Dispatches}
use Rattle.office_play.specs.Kept.{KeptOffice}

-- A report goes from the relay of this name to the server.
abbrev pub DispatchesToServer : List ℕ → Report → Deed
DispatchesToServer relay report = Dispatches (ReportToServer relay report) report (codes "server")

-- the report at this place of the queue of the relay of this name
abbrev pub IsQueuedAt : KeptOffice → List ℕ → ℕ → Report → Type 0
IsQueuedAt o name at report =
    (relay : RelayState) × (named name o.relays ≡ Some relay) × (slice_get relay.queue at ≡ Some report)
