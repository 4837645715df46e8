-- The steps of the delivery of reports that each word of an office is.
use Rattle.std.specs.Prelude.{◌≡◌, ◌⊎◌, ℕ, ◌+◌, ℤ, List, [], ◌∷◌, ◌++◌, flat_map, length, Some, None}
use Rattle.std.specs.declared.option.Option.{Option}
use Rattle.std.specs.List.{range_with_len}
use Rattle.report_text.specs.declared.report.Report.{Report}
use Rattle.report_text.specs.declared.report_row.ReportRow.{ReportRow}
use Rattle.relay_core.specs.Relays.{RelayState}
use Rattle.server_text.specs.declared.request.Request.{Request}
use Rattle.server_text.specs.declared.request.Request.TheVariants as request
use Rattle.server_text.specs.Entries.{Asked}
use Rattle.server_text.specs.RequestTexts.{Asks}
use Rattle.office_text.specs.declared.order.Order.{Order}
use Rattle.office_text.specs.declared.order.Order.TheVariants as order
use Rattle.turn_lines.specs.TurnsWithFiles.{Fetch}
use Rattle.delivery.specs.Messages.{named}
use Rattle.delivery.specs.Schedules.{Ask, Deliver, Forget, Make, Push, Restart, Save, Send, Step}
use Rattle.office_rules.specs.ComputerWords.{TurnsComputer}
use Rattle.office_rules.specs.Deeds.{Deed}
use Rattle.group_core.specs.Books.{HasMembers}
use Rattle.office_rules.specs.GroupWords.{HasNoMember, aimed}
use Rattle.office_rules.specs.MessageWords.{next_number, shown_numbers, shown_report}
use Rattle.office_rules.specs.Offices.{Office, PlayedComputer}

-- The steps of deeds that are done one after another: those of each, by the office in which it begins.
abbrev pub AreOfEach : {T : Type 0} → (T → Deed) → (T → Office → List Step → Type 0) → List T → Office → List Step → Type 0
AreOfEach Does AreOf [] old steps = steps ≡ []
AreOfEach Does AreOf (first ∷ more) old steps =
    (between : Office) × (said : List ℕ) × (one : List Step) × (other : List Step) × Does first old said between × AreOf first old one
    × AreOfEach Does AreOf more between other × (steps ≡ one ++ other)

-- ---- publish, act, stop, file
-- the server is asked once, what the request asks
abbrev pub AreOfRequest : Request → List Step → Type 0
AreOfRequest request steps = (asked : Asked) × Asks request asked × (steps ≡ Ask request asked ∷ [])

-- ---- turn
-- a turn is nothing, a save, or a report that is made and saved
abbrev pub AreOfTurn : List ℕ → List Step → Type 0
AreOfTurn name steps = (steps ≡ []) ⊎ ((steps ≡ Save name ∷ []) ⊎ ((rows : List ReportRow) × (steps ≡ Make name rows ∷ [])))

-- turns one after another: one for each of these files, before which it came, and the last
abbrev pub AreOfTurns : List ℕ → List Fetch → List Step → Type 0
AreOfTurns name [] steps = AreOfTurn name steps
AreOfTurns name (fetch ∷ fetches) steps =
    (one : List Step) × (other : List Step) × AreOfTurn name one × AreOfTurns name fetches other × (steps ≡ one ++ other)

-- The computer of this name turns at the moment, and these are the steps of its turns.
pub record AreOfTurning (name : List ℕ) (moment : ℤ) (old : Office) (steps : List Step) : Type 0 where
  pub computer : PlayedComputer
  pub then : PlayedComputer
  pub relay : RelayState
  pub said : List ℕ
  pub here : named name old.computers ≡ Some computer
  pub from : named computer.relay old.relays ≡ Some relay
  pub turns : TurnsComputer name moment old.accepted relay.sites computer said then
  pub each : AreOfTurns name turns.turns.turns.fetches steps

-- ---- send, report
-- the report of this number that the computer shows, if there is one
abbrev pub shown_of : ℕ → Option PlayedComputer → Option Report
shown_of seq None = None
shown_of seq (Some computer) = shown_report seq computer.agent

abbrev pub shown_at : List ℕ → ℕ → Office → Option Report
shown_at name seq o = shown_of seq (named name o.computers)

-- a report that is found is sent
abbrev pub send_steps : List ℕ → ℕ → Option Report → List Step
send_steps name seq None = []
send_steps name seq (Some report) = Send name seq ∷ []

-- the numbers of the reports that the computer shows
abbrev pub numbers_of : Option PlayedComputer → List ℕ
numbers_of None = []
numbers_of (Some computer) = shown_numbers computer.agent

-- the reports of these numbers are sent as messages from this number on: each arrives, and then its answer, before the next one is sent
abbrev pub report_steps : List ℕ → ℕ → List ℕ → List Step
report_steps name number [] = []
report_steps name number (seq ∷ seqs) =
    Send name seq ∷ Deliver number ∷ Deliver (number + 1) ∷ report_steps name (number + 2) seqs

-- ---- forward
-- how many reports the relay queues
abbrev pub queued_of : Option RelayState → ℕ
queued_of None = 0
queued_of (Some relay) = length relay.queue

-- a queue of so many reports is sent as messages from this number on, and then each arrives, and its answer, which comes so many behind it
abbrev pub forward_steps : List ℕ → ℕ → ℕ → List Step
forward_steps name first count =
    Push name ∷ flat_map (λ (number : ℕ). Deliver number ∷ Deliver (number + count) ∷ []) (range_with_len first count)

-- ---- target
-- the server is asked once, or not at all where the group has no member
abbrev pub AreOfTarget : List ℕ → List ℕ → Office → List Step → Type 0
AreOfTarget name text old steps =
    (HasNoMember old.book name × (steps ≡ []))
    ⊎ ((first : List ℕ) × (more : List (List ℕ)) × HasMembers old.book name (first ∷ more)
    × AreOfRequest (request.Act (aimed (first ∷ more) text)) steps)

-- ---- any word
abbrev pub AreStepsOf : Order → Office → List Step → Type 0
AreStepsOf (order.Publish text) old steps = AreOfRequest (request.Publish text) steps
AreStepsOf (order.Act text) old steps = AreOfRequest (request.Act text) steps
AreStepsOf (order.Stop id) old steps = AreOfRequest (request.Stop id) steps
AreStepsOf (order.File bytes) old steps = AreOfRequest (request.File bytes) steps
AreStepsOf (order.Turn name moment) old steps = AreOfTurning name moment old steps
AreStepsOf (order.Restart name) old steps = steps ≡ Restart name ∷ []
AreStepsOf (order.Send name seq) old steps = steps ≡ send_steps name seq (shown_at name seq old)
AreStepsOf (order.Push relay) old steps = steps ≡ Push relay ∷ []
AreStepsOf (order.Deliver message) old steps = steps ≡ Deliver message ∷ []
AreStepsOf (order.Report name) old steps = steps ≡ report_steps name (next_number old) (numbers_of (named name old.computers))
AreStepsOf (order.Forward relay) old steps = steps ≡ forward_steps relay (next_number old) (queued_of (named relay old.relays))
AreStepsOf (order.Forget relay) old steps = steps ≡ Forget relay ∷ []
AreStepsOf (order.Target name text) old steps = AreOfTarget name text old steps
AreStepsOf other old steps = steps ≡ []
