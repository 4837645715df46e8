-- What a message does where it arrives.
use Rattle.std.specs.Prelude.{ℕ, List, Some, None}
use Rattle.std.specs.declared.option.Option.{Option}
use Rattle.report_text.specs.declared.report.Report.{Report}
use Rattle.relay_core.specs.ReportKeys.{ReportKey, key_of, report_digest}
use Rattle.relay_core.specs.ReportsUp.{after_sent, after_up, up_verdict}
use Rattle.server_text.specs.declared.reply.Reply.{Reply}
use Rattle.server_text.specs.declared.reply.Reply.TheVariants.{Again, Conflict, Ok}
use Rattle.server_text.specs.Entries.{Entry, Enters, Reported}
use Rattle.server_core.specs.declared.limits.Limits.{Limits}
use Rattle.server_core.specs.CallAnswers.{after}
use Rattle.server_core.specs.Replies.{reply}
use Rattle.delivery.specs.Messages.{Message, ReportToRelay, ReportToServer, VerdictToComputer, ReplyToRelay, Carrier, carrier_of, changed, named, relay_of}

-- the carrier after a report came up to it
abbrev pub carried : Report → Carrier → Carrier
carried report carrier = carrier_of (after_up (relay_of carrier) report)

-- what it answers to the computer of the report; where there is no such carrier, nothing
abbrev pub verdict_of : Report → Option Carrier → Option Message
verdict_of report None = None
verdict_of report (Some carrier) = Some (VerdictToComputer report.computer report.seq (up_verdict (relay_of carrier) report))

-- The digest that the server holds by its reply to a report with this digest: at Ok and Again that one, at Conflict the one that it names.
-- Any other reply, as Full, tells of none.
abbrev pub held_by : List ℕ → Reply → Option (List ℕ)
held_by digest Ok = Some digest
held_by digest Again = Some digest
held_by digest (Conflict kept) = Some kept
held_by digest other = None

-- the carrier after it was told that the server holds a report of this key with this digest, if with any
abbrev pub told : ReportKey → Option (List ℕ) → Carrier → Carrier
told key None carrier = carrier
told key (Some digest) carrier = carrier_of (after_sent (relay_of carrier) key digest)

-- what is accepted, the latest first; the carriers by their names; the new message, if there is one
pub record Arrived : Type 0 where
  pub accepted : List Entry
  pub relays : List (List ℕ × Carrier)
  pub answer : Option Message

-- A report is taken at its relay or by the server, and each time it arrives the verdict or reply of that moment goes back as a new message.
-- A reply is told to its relay. A verdict is for its computer, and does nothing to these.
abbrev pub arrives : Limits → List Entry → List (List ℕ × Carrier) → Message → Arrived
arrives limits accepted relays (ReportToRelay relay report) =
    record { accepted = accepted; relays = changed relay (carried report) relays; answer = verdict_of report (named relay relays) }
arrives limits accepted relays (ReportToServer relay report) = record {
  accepted = after accepted limits (Enters (Reported report));
  relays = relays;
  answer = Some (ReplyToRelay relay (key_of report) (report_digest report) (reply accepted limits (Enters (Reported report))));
}
arrives limits accepted relays (VerdictToComputer computer seq verdict) =
    record { accepted = accepted; relays = relays; answer = None }
arrives limits accepted relays (ReplyToRelay relay key digest answered) =
    record { accepted = accepted; relays = changed relay (told key (held_by digest answered)) relays; answer = None }
