-- Schedules: what happens to reports on their way, step by step, in any order.
use Rattle.std.specs.Prelude.{◌≡◌, ℕ, suc, zero, ◌+◌, ◌==◌, nat_lt, if◌then◌else◌, List, [], ◌∷◌, ◌++◌, map, filter, find, slice_get, option_to_list, Some, None, ⊤}
use Rattle.std.specs.declared.option.Option.{Option}
use Rattle.std.specs.Option.{option_map}
use Rattle.line_forms.specs.Numbers.{last_id}
use Rattle.report_text.specs.declared.report.Report.{Report}
use Rattle.report_text.specs.declared.report_row.ReportRow.{ReportRow}
use Rattle.report_text.specs.declared.answer.Verdict.{Verdict}
use Rattle.report_text.specs.declared.answer.Verdict.TheVariants.{Stored}
use Rattle.report_text.specs.Reports.{IsReport}
use Rattle.agent_core.specs.Schedules.{Mail, made, report_of, restarted, saved, settled}
use Rattle.server_text.specs.declared.request.Request.{Request}
use Rattle.server_text.specs.Entries.{Asked, Enters, Entry, Reported}
use Rattle.server_text.specs.RequestTexts.{Asks}
use Rattle.server_core.specs.declared.limits.Limits.{Limits}
use Rattle.server_core.specs.CallAnswers.{after}
use Rattle.delivery.specs.Messages.{Message, ReportToRelay, ReportToServer, VerdictToComputer, ReplyToRelay, Carrier, changed, empty_carrier, named}
use Rattle.delivery.specs.Arrivals.{Arrived, arrives}

-- What is given beforehand: the limits of the server; the relays by their names, each with the most reports that it queues; the
-- computers by their names, each with the name of its one relay.
pub record Deployment : Type 0 where
  pub limits : Limits
  pub relays : List (List ℕ × ℕ)
  pub computers : List (List ℕ × List ℕ)

-- a computer: the name of its relay, and what of its agent matters
pub record Computer : Type 0 where
  pub relay : List ℕ
  pub mail : Mail

-- What is reached: the computers and the relays by their names; what the server has accepted, the latest first; the messages that were
-- ever sent, in their order; and, for the law alone, the reports that were ever made, each with the name of the computer that made it,
-- and those that were ever dropped.
pub record Network : Type 0 where
  pub computers : List (List ℕ × Computer)
  pub relays : List (List ℕ × Carrier)
  pub accepted : List Entry
  pub messages : List Message
  pub made : List (List ℕ × Report)
  pub dropped : List Report

-- the mail of an agent that begins: its next number is 1 and its outbox is empty, and so they are saved
abbrev pub new_mail : List ℕ → Mail
new_mail name = record { computer = name; next = 1; outbox = []; saved_next = 1; saved_outbox = [] }

-- a computer of this name at this relay, and a relay of this name with this limit, as they begin
abbrev pub new_computer : List ℕ × List ℕ → List ℕ × Computer
new_computer given = (given.0, record { relay = given.1; mail = new_mail given.0 })

abbrev pub new_relay : List ℕ × ℕ → List ℕ × Carrier
new_relay given = (given.0, empty_carrier given.1)

-- nothing has happened
abbrev pub start : Deployment → Network
start given = record {
  computers = map new_computer given.computers;
  relays = map new_relay given.relays;
  accepted = [];
  messages = [];
  made = [];
  dropped = [];
}

-- a step of a schedule
pub data Step : Type 0 where
  -- the computer makes a report of these rows and saves it
  Make : (computer : List ℕ) (rows : List ReportRow) → Step
  -- the computer sends the report with this number of its outbox to its relay
  Send : (computer : List ℕ) (seq : ℕ) → Step
  -- the relay sends each queued report to the server, in order
  Push : (relay : List ℕ) → Step
  -- the message with this number arrives, perhaps once more; the first one sent has the number 1
  Deliver : (number : ℕ) → Step
  -- the relay begins anew
  Forget : (relay : List ℕ) → Step
  -- the computer saves its outbox and its next number
  Save : (computer : List ℕ) → Step
  -- the computer begins anew, with what it saved last
  Restart : (computer : List ℕ) → Step
  -- the server is asked this by somebody; it is no report
  Ask : (request : Request) (asked : Asked) → Step

-- the mail of a computer is changed
abbrev pub with_mail : (Mail → Mail) → Computer → Computer
with_mail change computer = record computer { mail = change computer.mail }

abbrev pub mail_changed : List ℕ → (Mail → Mail) → Network → Network
mail_changed computer change n = record n { computers = changed computer (with_mail change) n.computers }

-- these messages are sent
abbrev pub with_messages : List Message → Network → Network
with_messages messages n = record n { messages = n.messages ++ messages }

-- the report that the computer of this name makes of rows, if it makes one: none at the last number
abbrev pub made_of : List ℕ → List ReportRow → Option Computer → List (List ℕ × Report)
made_of name rows None = []
made_of name rows (Some computer) =
    if nat_lt computer.mail.next last_id then (name, report_of rows computer.mail) ∷ [] else []

-- the message that a computer sends of the report with this number, if its outbox has one
abbrev pub sent_of : ℕ → Option Computer → List Message
sent_of seq None = []
sent_of seq (Some computer) =
    option_to_list (option_map (ReportToRelay computer.relay) (find (λ (report : Report). report.seq == seq) computer.mail.outbox))

-- the messages that a relay of this name sends of its queue
abbrev pub pushed_of : List ℕ → Option Carrier → List Message
pushed_of relay None = []
pushed_of relay (Some carrier) = map (ReportToServer relay) carrier.queue

-- the message with this number, from 1
abbrev pub message_at : ℕ → List Message → Option Message
message_at zero messages = None
message_at (suc number) messages = slice_get messages number

-- a report that is stored is dropped; every other verdict keeps it
abbrev pub heard : ℕ → Verdict → Mail → Mail
heard seq Stored mail = settled seq mail
heard seq other mail = mail

-- the reports that are dropped by a verdict
abbrev pub dropped_of : ℕ → Verdict → Option Computer → List Report
dropped_of seq Stored (Some computer) = filter (λ (report : Report). report.seq == seq) computer.mail.outbox
dropped_of seq verdict computer = []

-- a verdict that arrives is heard by its computer
abbrev pub at_computer : Message → Network → Network
at_computer (VerdictToComputer computer seq verdict) n =
    record (mail_changed computer (heard seq verdict) n) { dropped = n.dropped ++ dropped_of seq verdict (named computer n.computers) }
at_computer other n = n

-- what arrived leaves this
abbrev pub with_arrived : Arrived → Network → Network
with_arrived arrived n =
    record n { accepted = arrived.accepted; relays = arrived.relays; messages = n.messages ++ option_to_list arrived.answer }

-- a message arrives
abbrev pub delivered : Limits → Option Message → Network → Network
delivered limits None n = n
delivered limits (Some message) n = at_computer message (with_arrived (arrives limits n.accepted n.relays message) n)

-- The network after a step. What a step names and isn't there changes nothing.
abbrev pub taken : Limits → Step → Network → Network
taken limits (Make computer rows) n =
    record (mail_changed computer (made rows) n) { made = n.made ++ made_of computer rows (named computer n.computers) }
taken limits (Send computer seq) n = with_messages (sent_of seq (named computer n.computers)) n
taken limits (Push relay) n = with_messages (pushed_of relay (named relay n.relays)) n
taken limits (Deliver number) n = delivered limits (message_at number n.messages) n
taken limits (Forget relay) n = record n { relays = changed relay (λ carrier. empty_carrier carrier.limit) n.relays }
taken limits (Save computer) n = mail_changed computer saved n
taken limits (Restart computer) n = mail_changed computer restarted n
taken limits (Ask request asked) n = record n { accepted = after n.accepted limits asked }

-- what is asked is no report
abbrev pub IsNoReport : Asked → Type 0
IsNoReport (Enters (Reported report)) = ⊥
IsNoReport other = ⊤

-- The step can be taken: what a computer makes of its rows is a report that can be spelled; what is asked is what the request asks,
-- and no report.
abbrev pub IsStep : Network → Step → Type 0
IsStep n (Make computer rows) =
    (there : Computer) → named computer n.computers ≡ Some there → IsReport (report_of rows there.mail)
IsStep n (Ask request asked) = Asks request asked × IsNoReport asked
IsStep n other = ⊤

-- each step can be taken when it comes
abbrev pub IsSchedule : Limits → Network → List Step → Type 0
IsSchedule limits n [] = ⊤
IsSchedule limits n (step ∷ steps) = IsStep n step × IsSchedule limits (taken limits step n) steps

-- the network after steps
abbrev pub reached : Limits → Network → List Step → Network
reached limits n [] = n
reached limits n (step ∷ steps) = reached limits (taken limits step n) steps
