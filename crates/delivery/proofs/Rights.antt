-- What holds of the parts of every network that is reached.
use Rattle.std.specs.Prelude.{◌≡◌, ℕ, ◌<◌, List, All, Contains, filter_map, Some}
use Rattle.std.specs.List.{IsDistinct}
use Rattle.report_text.specs.declared.report.Report.{Report}
use Rattle.report_text.specs.declared.answer.Verdict.{Verdict}
use Rattle.report_text.specs.declared.answer.Verdict.TheVariants.{Conflict, Stored}
use Rattle.report_text.specs.Reports.{IsReport}
use Rattle.relay_core.specs.ReportKeys.{ReportKey, key_of, report_digest, same_key}
use Rattle.server_text.specs.Entries.{Entry, Reported}
use Rattle.server_core.specs.CallAnswers.{AreAccepted}
use Rattle.server_core.specs.TableViews.{IsHeld, IsReportOf}
use Rattle.agent_core.specs.Schedules.{Mail}
use Rattle.delivery.specs.Messages.{Message, ReportToRelay, ReportToServer, VerdictToComputer, ReplyToRelay, Carrier, named}
use Rattle.delivery.specs.Arrivals.{held_by}
use Rattle.delivery.specs.Schedules.{Computer, Network}
use Rattle.delivery.specs.Holdings.{TellsNoConflict, report_key}

-- the reports that were made, each with the name of the computer that made it
abbrev pub History : Type 0
History = List (List ℕ × Report)

-- the report was made by its computer
abbrev pub IsMade : History → Report → Type 0
IsMade made report = Contains made (report.computer, report)

-- Each can be spelled and has the name of its computer, and no two have one key.
pub record AreMade (made : History) : Type 0 where
  pub good : All (λ entry. IsReport entry.1 × (entry.0 ≡ entry.1.computer)) made
  pub one : (report other : Report) → IsMade made report → IsMade made other → key_of report ≡ key_of other → report ≡ other

-- What is in the outbox, and what is saved, was made by this computer, and the next number is above those of all that it made. It is the
-- saved one.
pub record IsRightMail (made : History) (name : List ℕ) (mail : Mail) : Type 0 where
  pub own : mail.computer ≡ name
  pub outbox : All (λ report. Contains made (name, report)) mail.outbox
  pub saved : All (λ report. Contains made (name, report)) mail.saved_outbox
  pub below : (report : Report) → Contains made (name, report) → report.seq < mail.next
  pub next : mail.saved_next ≡ mail.next

-- What is queued was made, and what is known to be held is held.
pub record IsRightCarrier (made : History) (accepted : List Entry) (carrier : Carrier) : Type 0 where
  pub queue : All (IsMade made) carrier.queue
  pub held : All (λ entry. IsHeld accepted entry.0.computer entry.0.seq entry.1) carrier.held

-- a report of this computer and number was accepted
abbrev pub HasKey : List Entry → List ℕ → ℕ → Type 0
HasKey accepted computer seq = (report : Report) × IsReportOf accepted computer report × (report.seq ≡ seq)

-- a verdict on a report: at Stored one of its key was accepted, and it is no conflict
pub record IsRightVerdict (accepted : List Entry) (computer : List ℕ) (seq : ℕ) (verdict : Verdict) : Type 0 where
  pub stored : verdict ≡ Stored → HasKey accepted computer seq
  pub agreed : (kept : List ℕ) → verdict ≡ Conflict kept → ⊥

-- A report that is on its way was made. At Stored one of its key was accepted; what a reply tells to be held is held.
abbrev pub IsRightMessage : History → List Entry → Message → Type 0
IsRightMessage made accepted (ReportToRelay relay report) = IsMade made report
IsRightMessage made accepted (ReportToServer relay report) = IsMade made report
IsRightMessage made accepted (VerdictToComputer computer seq verdict) = IsRightVerdict accepted computer seq verdict
IsRightMessage made accepted (ReplyToRelay relay key digest answered) =
    ((kept : List ℕ) → held_by digest answered ≡ Some kept → IsHeld accepted key.computer key.seq kept)
    × TellsNoConflict (ReplyToRelay relay key digest answered)

-- what was accepted
pub record AreRightEntries (made : History) (accepted : List Entry) : Type 0 where
  pub are : AreAccepted accepted
  pub each : (report : Report) → Contains accepted (Reported report) → IsMade made report
  pub once : IsDistinct same_key (filter_map report_key accepted)

-- a report that was dropped is held
abbrev pub IsKept : List Entry → Report → Type 0
IsKept accepted report = IsHeld accepted report.computer report.seq (report_digest report)

abbrev pub AreRightMails : History → List (List ℕ × Computer) → Type 0
AreRightMails made computers =
    (name : List ℕ) (there : Computer) → named name computers ≡ Some there → IsRightMail made name there.mail

abbrev pub AreRightCarriers : History → List Entry → List (List ℕ × Carrier) → Type 0
AreRightCarriers made accepted relays =
    (name : List ℕ) (carrier : Carrier) → named name relays ≡ Some carrier → IsRightCarrier made accepted carrier

pub record IsRight (n : Network) : Type 0 where
  pub made : AreMade n.made
  pub accepted : AreRightEntries n.made n.accepted
  pub computers : AreRightMails n.made n.computers
  pub relays : AreRightCarriers n.made n.accepted n.relays
  pub messages : All (IsRightMessage n.made n.accepted) n.messages
  pub dropped : All (IsKept n.accepted) n.dropped
