-- Messages, and the relays that they come to and go from.
use Rattle.std.specs.Prelude.{ℕ, bytes_eq, List, [], Some, None}
use Rattle.std.specs.declared.option.Option.{Option}
use Rattle.std.specs.Map.{lookup, set_value}
use Rattle.report_text.specs.declared.report.Report.{Report}
use Rattle.report_text.specs.declared.answer.Verdict.{Verdict}
use Rattle.relay_core.specs.ReportKeys.{ReportKey}
use Rattle.relay_core.specs.Relays.{RelayState}
use Rattle.server_text.specs.declared.reply.Reply.{Reply}

-- A message says by its kind where it goes; a name is a name alone, so that a relay may be called `server`.
pub data Message : Type 0 where
  -- a report, from its computer to the relay of this name
  ReportToRelay : (relay : List ℕ) (report : Report) → Message
  -- a report, from the relay of this name to the server
  ReportToServer : (relay : List ℕ) (report : Report) → Message
  -- what a relay said of the report with this number, to the computer of this name
  VerdictToComputer : (computer : List ℕ) (seq : ℕ) (verdict : Verdict) → Message
  -- what the server replied to a report of this key and with this digest, to the relay of this name
  ReplyToRelay : (relay : List ℕ) (key : ReportKey) (digest : List ℕ) (answered : Reply) → Message

-- What of a relay matters for the delivery of reports: the most that it queues; its queue, the oldest report first; the keys of which it
-- knows that the server holds a report, each with that report's digest, the latest first.
pub record Carrier : Type 0 where
  pub limit : ℕ
  pub queue : List Report
  pub held : List (ReportKey × List ℕ)

-- a carrier that carries and knows nothing
abbrev pub empty_carrier : ℕ → Carrier
empty_carrier limit = record { limit = limit; queue = []; held = [] }

-- what of this relay matters
abbrev pub carrier_of : RelayState → Carrier
carrier_of relay = record { limit = relay.limit; queue = relay.queue; held = relay.held }

-- the relay of which this matters, and which keeps no site
abbrev pub relay_of : Carrier → RelayState
relay_of carrier = record { limit = carrier.limit; queue = carrier.queue; held = carrier.held; sites = [] }

-- what stands under a name
abbrev pub named : {V : Type 0} → List ℕ → List (List ℕ × V) → Option V
named name entries = lookup (bytes_eq name) entries

-- with this in the place of what stood under the name, if something did
abbrev pub replaced : {V : Type 0} → List ℕ → (V → V) → List (List ℕ × V) → Option V → List (List ℕ × V)
replaced name change entries None = entries
replaced name change entries (Some value) = set_value (bytes_eq name) entries (change value)

-- What stands under the name is changed. A name under which nothing stands changes nothing.
abbrev pub changed : {V : Type 0} → List ℕ → (V → V) → List (List ℕ × V) → List (List ℕ × V)
changed name change entries = replaced name change entries (named name entries)
