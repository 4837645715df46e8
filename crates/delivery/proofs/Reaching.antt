-- What holds at the start of a schedule and after all of its steps.
use Rattle.std.specs.Prelude.{◌≡◌, ◌≤◌, ℕ, bytes_eq, List, [], ◌∷◌, All, Contains, length, map, slice_index_or, Some, ⊤}
use Rattle.std.specs.List.{IsDistinct}
use Rattle.std.proofs.Common.{refl, sym, subst}
use Rattle.std.proofs.lemmas.List.Elements.{All-map, All-nil, All-weaker}
use Rattle.std.proofs.lemmas.Slice.Eq.{bytes_eq-Decides}
use Rattle.report_text.specs.declared.report.Report.{Report}
use Rattle.report_text.specs.Reports.{IsReport, report_text}
use Rattle.relay_core.specs.ReportKeys.{ReportKey, same_key}
use Rattle.server_text.specs.Entries.{Entry, Reported}
use Rattle.server_core.specs.declared.limits.Limits.{Limits}
use Rattle.server_core.specs.AcceptedTables.{report_at, view}
use Rattle.server_core.specs.CallAnswers.{AreAccepted}
use Rattle.server_core.specs.TableViews.{IsHeld, ShowsReport}
use Rattle.delivery.specs.Messages.{Message, ReportToRelay, ReportToServer, VerdictToComputer, ReplyToRelay, Carrier, empty_carrier, named}
use Rattle.delivery.specs.Schedules.{Computer, Deployment, IsSchedule, Network, Step, new_computer, new_mail, new_relay, reached, start, taken}
use Rattle.delivery.specs.Holdings.{IsDelivered, TellsNoConflict}
use Rattle.delivery.proofs.Accepting.{SaysAnother, SaysHeld}
use Rattle.delivery.proofs.Lists.{all_looked, in_nothing}
use Rattle.delivery.proofs.Rights.{AreRightCarriers, AreRightMails, IsKept, IsMade, IsRight, IsRightCarrier, IsRightMail, IsRightMessage}
use Rattle.delivery.proofs.Stepping.{step_right}

-- ---- at the start

nothing_once : IsDistinct same_key []
unfolding IsDistinct
nothing_once = tt

new_mail_right : (name : List ℕ) → IsRightMail [] name (new_mail name)
new_mail_right name = record {
  own = refl;
  outbox = All-nil _;
  saved = All-nil _;
  below = λ report there. absurd (in_nothing (name, report) there);
  next = refl;
}

new_carrier_right : (limit : ℕ) → IsRightCarrier [] [] (empty_carrier limit)
new_carrier_right limit = record {
  queue = All-nil (IsMade []);
  held = All-nil (λ (entry : ReportKey × List ℕ). IsHeld [] entry.0.computer entry.0.seq entry.1);
}

computers_start : (computers : List (List ℕ × List ℕ)) → AreRightMails [] (map new_computer computers)
computers_start computers name there found =
    let Starts : List ℕ × Computer → Type 0 = λ entry. IsRightMail [] entry.0 entry.1.mail in
    let looked = all_looked Starts (bytes_eq name) (map new_computer computers) there
    (All-map Starts new_computer computers (λ k d in_. new_mail_right (slice_index_or computers k d).0)) found in
    subst (λ (key : List ℕ). IsRightMail [] key there.mail) (sym ((bytes_eq-Decides name looked.0).0 looked.1)) looked.2

relays_start : (relays : List (List ℕ × ℕ)) → AreRightCarriers [] [] (map new_relay relays)
relays_start relays name carrier found =
    let Starts : List ℕ × Carrier → Type 0 = λ entry. IsRightCarrier [] [] entry.1 in
    (all_looked Starts (bytes_eq name) (map new_relay relays) carrier
    (All-map Starts new_relay relays (λ k d in_. new_carrier_right (slice_index_or relays k d).1)) found).2

start_right : (given : Deployment) → IsRight (start given)
start_right given = record {
  made = record { good = All-nil _; one = λ report other there also same. absurd (in_nothing (report.computer, report) there) };
  accepted = record { are = tt; each = λ report there. absurd (in_nothing (Reported report) there); once = nothing_once };
  computers = computers_start given.computers;
  relays = relays_start given.relays;
  messages = All-nil _;
  dropped = All-nil _;
}

-- ---- after the steps

module _ (limits : Limits) (short : (other : Report) → IsReport other → length (report_text other) ≤ 65536)
    (kept : (accepted : List Entry) (computer : List ℕ) (seq : ℕ) → AreAccepted accepted
    → ShowsReport accepted computer seq (report_at computer seq (view accepted)))
    (says_held : (accepted : List Entry) (report : Report) → SaysHeld limits accepted report)
    (says_another : (accepted : List Entry) (report : Report) → SaysAnother limits accepted report) where
  reached_right : (steps : List Step) (n : Network) → IsRight n → IsSchedule limits n steps → IsRight (reached limits n steps)
  reached_right [] n right is = right
  reached_right (step ∷ steps) n right is =
      reached_right steps (taken limits step n) (step_right n right limits short kept says_held says_another step is.0) is.1

  agrees : (n : Network) (message : Message) → IsRightMessage n.made n.accepted message → TellsNoConflict message
  agrees n (ReportToRelay relay report) right = tt
  agrees n (ReportToServer relay report) right = tt
  agrees n (VerdictToComputer computer seq verdict) right = right.agreed
  agrees n (ReplyToRelay relay key digest answered) right = right.1

  is_delivered : (n : Network) → IsRight n → IsDelivered n
  is_delivered n right = record {
    made = right.accepted.each;
    once = right.accepted.once;
    held = right.dropped;
    agreed = All-weaker (IsRightMessage n.made n.accepted) TellsNoConflict (agrees n) n.messages right.messages;
  }

  pub schedule_delivers : (given : Deployment) (steps : List Step) → IsSchedule limits (start given) steps
      → IsDelivered (reached limits (start given) steps)
  schedule_delivers given steps is = is_delivered (reached limits (start given) steps) (reached_right steps (start given) (start_right given) is)
