-- The words `send`, `push`, `deliver`, `report` and `forward`. Messages have the numbers 1, 2 and on.
use Rattle.std.specs.Prelude.{◌≡◌, ℕ, ◌+◌, ◌==◌, Bool, true, false, List, [], ◌∷◌, ◌++◌, length, map, find, option_to_list, codes, decimal, Some, None}
use Rattle.std.specs.declared.option.Option.{Option}
use Rattle.std.specs.List.{range_with_len}
use Rattle.fix_site.specs.declared.site.Site.{Site}
use Rattle.report_text.specs.declared.report.Report.{Report}
use Rattle.relay_core.specs.Relays.{RelayState}
use Rattle.agent_state.specs.Changes.{SettlesState}
use Rattle.agent_state.specs.States.{State}
use Rattle.agent_core.specs.ShownReports.{shown_reports}
use Rattle.server_core.specs.DeskLimits.{desk_limits}
use Rattle.delivery.specs.Messages.{Message, ReportToRelay, ReportToServer, VerdictToComputer, ReplyToRelay, named}
use Rattle.delivery.specs.Arrivals.{Arrived, arrives}
use Rattle.delivery.specs.Schedules.{message_at}
use Rattle.turn_lines.specs.VerdictWords.{reply_word, verdict_word}
use Rattle.office_rules.specs.Deeds.{Deed, DoesBoth, DoesEach}
use Rattle.office_rules.specs.Offices.{Office, PlayedComputer, carriers_of, with_computer}
use Rattle.office_rules.specs.OfficeLines.{answer_words, delivered_line, nothing_line, sent_line}

-- the number of the next message
abbrev pub next_number : Office → ℕ
next_number o = length o.messages + 1

-- This message, which brings the report, is sent. Whereto is printed: the name of a relay, or the word `server`.
abbrev pub Dispatches : Message → Report → List ℕ → Deed
Dispatches message report to old said new =
    (said ≡ sent_line (next_number old) report to) × (new ≡ record old { messages = old.messages ++ message ∷ [] })

-- ---- send
-- the report of this number that an agent shows, if it shows one
abbrev pub shown_report : ℕ → State → Option Report
shown_report seq s = find (λ (report : Report). report.seq == seq) (shown_reports s)

-- The report that was found is sent to the relay, or there is none.
abbrev pub SendsFound : List ℕ → ℕ → List ℕ → Option Report → Deed
SendsFound name seq relay None old said new = (said ≡ nothing_line (codes "send" ∷ name ∷ decimal seq ∷ [])) × (new ≡ old)
SendsFound name seq relay (Some report) old said new = Dispatches (ReportToRelay relay report) report relay old said new

-- A computer sends the report of this number to its relay, if its agent shows one.
abbrev pub Sends : List ℕ → ℕ → Deed
Sends name seq old said new =
    (computer : PlayedComputer) × (named name old.computers ≡ Some computer)
    × SendsFound name seq computer.relay (shown_report seq computer.agent) old said new

-- ---- push
-- The reports of a queue are sent to the server in order, or there are none.
abbrev pub PushesQueue : List ℕ → List Report → Deed
PushesQueue name [] old said new = (said ≡ nothing_line (codes "push" ∷ name ∷ [])) × (new ≡ old)
PushesQueue name (first ∷ more) old said new =
    DoesEach (λ report. Dispatches (ReportToServer name report) report (codes "server")) (first ∷ more) old said new

-- A relay sends its queue.
abbrev pub Pushes : List ℕ → Deed
Pushes name old said new = (relay : RelayState) × (named name old.relays ≡ Some relay) × PushesQueue name relay.queue old said new

-- ---- deliver
-- what the server and the relays make of a message that arrives, by what was accepted and what the relays carry
abbrev pub arrived : Office → Message → Arrived
arrived o message = arrives desk_limits o.accepted (carriers_of o.relays) message

-- the sites of relays
abbrev pub sites_of : List (List ℕ × RelayState) → List (List Site)
sites_of relays = map (λ (entry : List ℕ × RelayState). entry.1.sites) relays

-- The message reached the server or a relay, if it was for one: relays keep their sites, an answer is a new message, and the book stays.
pub record Reaches (old : Office) (message : Message) (new : Office) : Type 0 where
  pub accepted : new.accepted ≡ (arrived old message).accepted
  pub carriers : carriers_of new.relays ≡ (arrived old message).relays
  pub sites : sites_of new.relays ≡ sites_of old.relays
  pub messages : new.messages ≡ old.messages ++ option_to_list (arrived old message).answer
  pub book : new.book ≡ old.book

-- the word for what an answer brings back: a relay's verdict, or a server's reply
abbrev pub answer_word : Message → Option (List ℕ)
answer_word (VerdictToComputer computer seq verdict) = Some (verdict_word verdict)
answer_word (ReplyToRelay relay key digest answered) = reply_word answered
answer_word report = None

-- what is said of a report that arrived: the word for its answer, and the number of that
abbrev pub SaysAnswer : Office → Message → List (List ℕ) → Type 0
SaysAnswer old message said =
    (answer : Message) × (word : List ℕ) × ((arrived old message).answer ≡ Some answer) × (answer_word answer ≡ Some word)
    × (said ≡ answer_words word (next_number old))

-- what is said of a verdict that arrived: whether the report was dropped
abbrev pub settled_word : Bool → List ℕ
settled_word true = codes "dropped"
settled_word false = codes "kept"

-- What is said of a message that arrived, and what the computers are then: a verdict settles its report at its computer, and anything
-- else leaves them.
abbrev pub Tells : Message → Office → List (List ℕ) → List (List ℕ × PlayedComputer) → Type 0
Tells (VerdictToComputer name seq verdict) old said computers =
    (computer : PlayedComputer) × (agent : State) × (dropped : Bool) × (named name old.computers ≡ Some computer)
    × SettlesState seq verdict computer.agent dropped agent × (said ≡ settled_word dropped ∷ [])
    × (computers ≡ (with_computer name (record computer { agent = agent }) old).computers)
Tells (ReplyToRelay relay key digest answered) old said computers = (said ≡ codes "noted" ∷ []) × (computers ≡ old.computers)
Tells report old said computers = SaysAnswer old report said × (computers ≡ old.computers)

-- The message of this number arrives.
pub record Delivers (number : ℕ) (message : Message) (old : Office) (said : List ℕ) (new : Office) : Type 0 where
  pub words : List (List ℕ)
  pub reaches : Reaches old message new
  pub tells : Tells message old words new.computers
  pub said_is : said ≡ delivered_line number words

-- The message of this number arrives, or there is none.
abbrev pub DeliversFound : ℕ → Option Message → Deed
DeliversFound number None old said new = (said ≡ nothing_line (codes "deliver" ∷ decimal number ∷ [])) × (new ≡ old)
DeliversFound number (Some message) old said new = Delivers number message old said new

abbrev pub DeliversAt : ℕ → Deed
DeliversAt number old said new = DeliversFound number (message_at number old.messages) old said new

-- The message of this number arrives, and then its answer, which is the newest message.
abbrev pub DeliversAnswered : ℕ → Deed
DeliversAnswered number old said new = DoesBoth (DeliversAt number) (DeliversAt (next_number old)) old said new

-- ---- report
-- A computer sends the report of this number, which arrives, and then its answer does.
abbrev pub ReportsOne : List ℕ → ℕ → Deed
ReportsOne name seq old said new = DoesBoth (Sends name seq) (DeliversAnswered (next_number old)) old said new

-- the numbers of the reports that an agent shows
abbrev pub shown_numbers : State → List ℕ
shown_numbers s = map (λ (report : Report). report.seq) (shown_reports s)

-- A computer sends each report that its agent shows as the word begins; each arrives, and so does its answer,
-- before the next one is sent.
abbrev pub ReportsAll : List ℕ → Deed
ReportsAll name old said new =
    (computer : PlayedComputer) × (named name old.computers ≡ Some computer)
    × DoesEach (ReportsOne name) (shown_numbers computer.agent) old said new

-- ---- forward
-- A relay sends its queue as the word begins, and each of the new messages arrives, and then its answer, before the next one.
abbrev pub Forwards : List ℕ → Deed
Forwards name old said new =
    (relay : RelayState) × (named name old.relays ≡ Some relay)
    × DoesBoth (PushesQueue name relay.queue) (DoesEach DeliversAnswered (range_with_len (next_number old) (length relay.queue)))
    old said new
