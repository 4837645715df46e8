-- What holds stays so as more is made and accepted.
use Rattle.std.specs.Prelude.{ℕ, true, false, cond, List, ◌∷◌, All, Contains}
use Rattle.std.proofs.lemmas.List.Elements.{All-weaker}
use Rattle.report_text.specs.declared.report.Report.{Report}
use Rattle.report_text.specs.declared.answer.Verdict.{Verdict}
use Rattle.server_text.specs.Entries.{Asked, Bad, Enters, Entry, FileBytes, Reported, Results, SiteText, Versions}
use Rattle.server_core.specs.declared.limits.Limits.{Limits}
use Rattle.server_core.specs.CallAnswers.{after, is_accepted}
use Rattle.server_core.specs.TableViews.{IsHeld}
use Rattle.delivery.specs.Messages.{Message, ReportToRelay, ReportToServer, VerdictToComputer, ReplyToRelay, Carrier}
use Rattle.delivery.proofs.Lists.{cons_tail}
use Rattle.delivery.proofs.Rights.{HasKey, History, IsKept, IsMade, IsRightCarrier, IsRightMessage, IsRightVerdict}

-- each of these is among those
abbrev pub Within : {X : Type 0} → List X → List X → Type 0
Within {X} xs ys = (x : X) → Contains xs x → Contains ys x

pub after_entry : (limits : Limits) (accepted : List Entry) (entry : Entry) → Within accepted (after accepted limits (Enters entry))
after_entry limits accepted entry =
    elim (is_accepted accepted limits entry) as (λ b. Within accepted (cond b (entry ∷ accepted) accepted)) [
      | true ↦ cons_tail entry accepted
      | false ↦ λ x in_. in_
    ]

-- what was accepted stays so, whatever is asked
pub after_asked : (limits : Limits) (accepted : List Entry) (asked : Asked) → Within accepted (after accepted limits asked)
after_asked limits accepted (Enters entry) = after_entry limits accepted entry
after_asked limits accepted Versions = λ x in_. in_
after_asked limits accepted (SiteText name version) = λ x in_. in_
after_asked limits accepted (FileBytes digest) = λ x in_. in_
after_asked limits accepted (Results computer) = λ x in_. in_
after_asked limits accepted (Bad line) = λ x in_. in_

module _ (accepted later : List Entry) (more : Within accepted later) where
  pub held_later : (computer : List ℕ) (seq : ℕ) (digest : List ℕ) → IsHeld accepted computer seq digest → IsHeld later computer seq digest
  held_later computer seq digest held = (held.0, (more (Reported held.0) held.1.0, held.1.1), held.2, held.3)

  key_later : (computer : List ℕ) (seq : ℕ) → HasKey accepted computer seq → HasKey later computer seq
  key_later computer seq has = (has.0, (more (Reported has.0) has.1.0, has.1.1), has.2)

  verdict_later : (computer : List ℕ) (seq : ℕ) (verdict : Verdict) → IsRightVerdict accepted computer seq verdict
      → IsRightVerdict later computer seq verdict
  verdict_later computer seq verdict right = record { stored = λ e. key_later computer seq (right.stored e); agreed = right.agreed }

  pub kept_later : (reports : List Report) → All (IsKept accepted) reports → All (IsKept later) reports
  kept_later reports all = All-weaker (IsKept accepted) (IsKept later) (λ report held. held_later _ _ _ held) reports all

  module _ (made history : History) (grown : Within made history) where
    made_later : (report : Report) → IsMade made report → IsMade history report
    made_later report is = grown (report.computer, report) is

    pub carrier_later : (carrier : Carrier) → IsRightCarrier made accepted carrier → IsRightCarrier history later carrier
    carrier_later carrier right = record {
      queue = All-weaker (IsMade made) (IsMade history) made_later carrier.queue right.queue;
      held = All-weaker (λ entry. IsHeld accepted entry.0.computer entry.0.seq entry.1) (λ entry. IsHeld later entry.0.computer entry.0.seq entry.1)
          (λ entry held. held_later _ _ _ held) carrier.held right.held;
    }

    message_later : (message : Message) → IsRightMessage made accepted message → IsRightMessage history later message
    message_later (ReportToRelay relay report) right = made_later report right
    message_later (ReportToServer relay report) right = made_later report right
    message_later (VerdictToComputer computer seq verdict) right = verdict_later computer seq verdict right
    message_later (ReplyToRelay relay key digest answered) right = ((λ kept e. held_later _ _ _ (right.0 kept e)), right.1)

    pub messages_later : (messages : List Message) → All (IsRightMessage made accepted) messages → All (IsRightMessage history later) messages
    messages_later messages all = All-weaker (IsRightMessage made accepted) (IsRightMessage history later) message_later messages all
