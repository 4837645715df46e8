-- A message that arrives leaves what holds.
use Rattle.std.specs.Prelude.{◌≡◌, ◌≢◌, ◌≤◌, ℕ, ◌==◌, Bool, true, List, [], ◌∷◌, ◌++◌, All, Contains, filter, length, option_to_list, slice_index_or, Some, None}
use Rattle.std.specs.declared.option.Option.{Option}
use Rattle.std.proofs.Common.{inl, inr, refl, sym, ap, ◌∙◌, subst}
use Rattle.std.proofs.lemmas.Bool.{eqb-true}
use Rattle.std.proofs.lemmas.List.Elements.{All-append, All-contains, All-cons, All-filter, All-nil, filter_passes}
use Rattle.report_text.specs.declared.report.Report.{Report}
use Rattle.report_text.specs.declared.answer.Verdict.{Verdict}
use Rattle.report_text.specs.declared.answer.Verdict.TheVariants.{Carried, Conflict, Full, Stored}
use Rattle.report_text.specs.Reports.{IsReport, report_text}
use Rattle.relay_core.specs.ReportKeys.{ReportKey, key_of, report_digest}
use Rattle.server_text.specs.declared.reply.Reply.{Reply}
use Rattle.server_text.specs.Entries.{Enters, Entry, Reported}
use Rattle.server_core.specs.declared.limits.Limits.{Limits}
use Rattle.server_core.specs.AcceptedTables.{report_at, view}
use Rattle.server_core.specs.CallAnswers.{AreAccepted, after}
use Rattle.server_core.specs.TableViews.{ShowsReport}
use Rattle.agent_core.specs.Schedules.{Mail}
use Rattle.delivery.specs.Messages.{Message, ReportToRelay, ReportToServer, VerdictToComputer, ReplyToRelay, Carrier, changed, named}
use Rattle.delivery.specs.Arrivals.{arrives, carried, held_by, told, verdict_of}
use Rattle.delivery.specs.Schedules.{Computer, Network, at_computer, delivered, dropped_of, heard, with_arrived, with_mail}
use Rattle.delivery.proofs.Accepting.{SaysAnother, SaysHeld, no_conflict, reply_holds, report_right}
use Rattle.delivery.proofs.Carrying.{carried_right, told_right, verdict_right}
use Rattle.delivery.proofs.Growing.{after_entry, carrier_later, kept_later, messages_later}
use Rattle.delivery.proofs.Mails.{heard_right, made_own}
use Rattle.delivery.proofs.Names.{after_change}
use Rattle.delivery.proofs.Rights.{AreMade, AreRightCarriers, AreRightEntries, AreRightMails, HasKey, History, IsKept, IsMade, IsRight, IsRightCarrier, IsRightMail, IsRightMessage}

-- ---- what stands under names

-- a change that leaves each carrier right
pub carriers_changed : (made : History) (accepted : List Entry) (relay : List ℕ) (change : Carrier → Carrier) (relays : List (List ℕ × Carrier))
    → AreRightCarriers made accepted relays
    → ((carrier : Carrier) → IsRightCarrier made accepted carrier → IsRightCarrier made accepted (change carrier))
    → AreRightCarriers made accepted (changed relay change relays)
carriers_changed made accepted relay change relays right keeps other carrier found =
    elim (after_change relay change relays other carrier found) as (λ _. IsRightCarrier made accepted carrier) [
      | inl here ↦ subst (IsRightCarrier made accepted) here.1.2 (keeps here.1.0 (right relay here.1.0 here.1.1))
      | inr apart ↦ right other carrier apart.1
    ]

-- a change that leaves the mail of this computer right, while what was made grows by what only this computer made
pub mails_changed : (made history : History) (computer : List ℕ) (change : Mail → Mail) (computers : List (List ℕ × Computer))
    → AreRightMails made computers
    → ((there : Computer) → named computer computers ≡ Some there → IsRightMail history computer (change there.mail))
    → ((other : List ℕ) (mail : Mail) → computer ≢ other → IsRightMail made other mail → IsRightMail history other mail)
    → AreRightMails history (changed computer (with_mail change) computers)
mails_changed made history computer change computers right keeps others other there found =
    elim (after_change computer (with_mail change) computers other there found) as (λ _. IsRightMail history other there.mail) [
      | inl here ↦
          subst (λ (name : List ℕ). IsRightMail history name there.mail) here.0
          (subst (λ (c : Computer). IsRightMail history computer c.mail) here.1.2 (keeps here.1.0 here.1.1))
      | inr apart ↦ others other there.mail apart.0 (right other there apart.1)
    ]

-- ---- a verdict at a computer

module _ (made : History) (accepted : List Entry) (are : AreMade made) (entries : AreRightEntries made accepted) (computer : List ℕ) (seq : ℕ) where
  -- a report of this computer and number is the one that is held
  held_so : HasKey accepted computer seq → (report : Report) → Contains made (computer, report) → report.seq ≡ seq → IsKept accepted report
  held_so has report there is =
      let own : IsMade made report = made_own made computer report are there in
      let named_so : computer ≡ report.computer =
      (All-contains (λ entry. IsReport entry.1 × (entry.0 ≡ entry.1.computer)) made (computer, report) are.good there).1 in
      let by : has.0.computer ≡ report.computer = has.1.1 ∙ named_so in
      let number : has.0.seq ≡ report.seq = has.2 ∙ sym is in
      let same : has.0 ≡ report =
      are.one has.0 report (entries.each has.0 has.1.0) own (λ i. record { computer = by i; seq = number i }) in
      (has.0, (has.1.0, by), number, ap report_digest same)

  stored_dropped : HasKey accepted computer seq → (mail : Mail) → IsRightMail made computer mail
      → All (IsKept accepted) (filter (λ (report : Report). report.seq == seq) mail.outbox)
  stored_dropped has mail right =
      let of_seq : Report → Bool = λ (report : Report). report.seq == seq in
      λ k d in_.
      let gone = slice_index_or (filter of_seq mail.outbox) k d in
      held_so has gone (All-filter of_seq (λ report. Contains made (computer, report)) mail.outbox right.outbox k d in_)
      (eqb-true gone.seq seq (filter_passes of_seq mail.outbox k d in_))

  pub verdict_drops : (verdict : Verdict) → (verdict ≡ Stored → HasKey accepted computer seq) → (there : Option Computer)
      → ((found : Computer) → there ≡ Some found → IsRightMail made computer found.mail) → All (IsKept accepted) (dropped_of seq verdict there)
  verdict_drops Stored has None right = All-nil (IsKept accepted)
  verdict_drops Stored has (Some found) right = stored_dropped (has refl) found.mail (right found refl)
  verdict_drops Carried has there right = All-nil (IsKept accepted)
  verdict_drops (Conflict digest) has there right = All-nil (IsKept accepted)
  verdict_drops (Full limit) has there right = All-nil (IsKept accepted)

-- ---- a report at a relay

-- the verdict that goes back
verdict_message : (made : History) (accepted : List Entry) → AreMade made → AreRightEntries made accepted → (relays : List (List ℕ × Carrier))
    → AreRightCarriers made accepted relays → (relay : List ℕ) (report : Report) → IsMade made report
    → All (IsRightMessage made accepted) (option_to_list (verdict_of report (named relay relays)))
verdict_message made accepted are entries relays right relay report is_made =
    let Right : Message → Type 0 = IsRightMessage made accepted in
    elim (named relay relays) as (λ o. named relay relays ≡ o → All Right (option_to_list (verdict_of report o))) [
      | None ↦ λ e. All-nil Right
      | Some carrier ↦ λ e.
          All-cons Right _ [] (verdict_right made accepted are entries carrier (right relay carrier e) report is_made) (All-nil Right)
    ] refl

-- ---- any message

module _ (limits : Limits) (short : (other : Report) → IsReport other → length (report_text other) ≤ 65536)
    (kept : (accepted : List Entry) (computer : List ℕ) (seq : ℕ) → AreAccepted accepted
    → ShowsReport accepted computer seq (report_at computer seq (view accepted)))
    (says_held : (accepted : List Entry) (report : Report) → SaysHeld limits accepted report)
    (says_another : (accepted : List Entry) (report : Report) → SaysAnother limits accepted report) (n : Network) (right : IsRight n) where
  at_relay : (relay : List ℕ) (report : Report) → IsMade n.made report → IsRight (delivered limits (Some (ReportToRelay relay report)) n)
  at_relay relay report is_made = record {
    made = right.made;
    accepted = right.accepted;
    computers = right.computers;
    relays = carriers_changed n.made n.accepted relay (carried report) n.relays right.relays
        (λ carrier so. carried_right n.made n.accepted right.made right.accepted carrier so report is_made);
    messages = All-append (IsRightMessage n.made n.accepted) n.messages _ right.messages
        (verdict_message n.made n.accepted right.made right.accepted n.relays right.relays relay report is_made);
    dropped = right.dropped;
  }

  at_server : (relay : List ℕ) (report : Report) → IsMade n.made report → IsRight (delivered limits (Some (ReportToServer relay report)) n)
  at_server relay report is_made =
      let later = after n.accepted limits (Enters (Reported report)) in
      let more = after_entry limits n.accepted (Reported report) in
      let Later : Message → Type 0 = IsRightMessage n.made later in
      record {
        made = right.made;
        accepted = report_right n.made n.accepted right.made right.accepted report is_made limits short (kept n.accepted);
        computers = right.computers;
        relays = λ name carrier found.
            carrier_later n.accepted later more n.made n.made (λ x in_. in_) carrier (right.relays name carrier found);
        messages = All-append Later n.messages _ (messages_later n.accepted later more n.made n.made (λ x in_. in_) n.messages right.messages)
            (All-cons Later _ [] (
              reply_holds n.made limits n.accepted right.made right.accepted report is_made (says_held n.accepted report)
                  (says_another n.accepted report),
              no_conflict n.made limits n.accepted right.made right.accepted report is_made
                  (says_held n.accepted report) (says_another n.accepted report),
            ) (All-nil Later));
        dropped = kept_later n.accepted later more n.dropped right.dropped;
      }

  back_at_computer : (computer : List ℕ) (seq : ℕ) (verdict : Verdict) → (verdict ≡ Stored → HasKey n.accepted computer seq)
      → IsRight (delivered limits (Some (VerdictToComputer computer seq verdict)) n)
  back_at_computer computer seq verdict has = record {
    made = right.made;
    accepted = right.accepted;
    computers = mails_changed n.made n.made computer (heard seq verdict) n.computers right.computers
        (λ there found. heard_right n.made computer there.mail (right.computers computer there found) seq verdict) (λ other mail apart so. so);
    relays = right.relays;
    messages = All-append (IsRightMessage n.made n.accepted) n.messages [] right.messages (All-nil (IsRightMessage n.made n.accepted));
    dropped = All-append (IsKept n.accepted) n.dropped _ right.dropped (verdict_drops n.made n.accepted right.made right.accepted computer seq verdict has
        (named computer n.computers) (λ found is. right.computers computer found is));
  }

  back_at_relay : (relay : List ℕ) (key : ReportKey) (digest : List ℕ) (answered : Reply)
      → IsRightMessage n.made n.accepted (ReplyToRelay relay key digest answered)
      → IsRight (delivered limits (Some (ReplyToRelay relay key digest answered)) n)
  back_at_relay relay key digest answered message = record {
    made = right.made;
    accepted = right.accepted;
    computers = right.computers;
    relays = carriers_changed n.made n.accepted relay (told key (held_by digest answered)) n.relays right.relays
        (λ carrier so. told_right n.made n.accepted key carrier so (held_by digest answered) message.0);
    messages = All-append (IsRightMessage n.made n.accepted) n.messages [] right.messages (All-nil (IsRightMessage n.made n.accepted));
    dropped = right.dropped;
  }

  pub message_arrives : (message : Message) → IsRightMessage n.made n.accepted message → IsRight (delivered limits (Some message) n)
  message_arrives (ReportToRelay relay report) so = at_relay relay report so
  message_arrives (ReportToServer relay report) so = at_server relay report so
  message_arrives (VerdictToComputer computer seq verdict) so = back_at_computer computer seq verdict so.stored
  message_arrives (ReplyToRelay relay key digest answered) so = back_at_relay relay key digest answered so
