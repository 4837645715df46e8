-- A step leaves what holds.
use Rattle.std.specs.Prelude.{◌≡◌, ◌≤◌, ℕ, zero, suc, ◌+◌, nat_lt, ◌==◌, true, false, cond, List, [], ◌∷◌, ◌++◌, All, Contains, find, length, map, option_to_list, slice_get, Some, None}
use Rattle.std.specs.declared.option.Option.{Option}
use Rattle.std.specs.Option.{option_map}
use Rattle.std.proofs.Common.{refl, sym, ap, ◌∙◌, subst, append-nil}
use Rattle.std.proofs.lemmas.List.Elements.{All-append, All-cons, All-map, All-nil}
use Rattle.line_forms.specs.Numbers.{last_id}
use Rattle.report_text.specs.declared.report.Report.{Report}
use Rattle.report_text.specs.declared.report_row.ReportRow.{ReportRow}
use Rattle.report_text.specs.Reports.{IsReport, report_text}
use Rattle.server_text.specs.declared.request.Request.{Request}
use Rattle.server_text.specs.Entries.{Asked, Entry}
use Rattle.server_text.specs.RequestTexts.{Asks}
use Rattle.server_core.specs.declared.limits.Limits.{Limits}
use Rattle.server_core.specs.AcceptedTables.{report_at, view}
use Rattle.server_core.specs.CallAnswers.{AreAccepted, after}
use Rattle.server_core.specs.TableViews.{ShowsReport}
use Rattle.agent_core.specs.Schedules.{Mail, made, report_of, restarted, saved}
use Rattle.delivery.specs.Messages.{Message, ReportToRelay, ReportToServer, Carrier, empty_carrier, named}
use Rattle.delivery.specs.Schedules.{Ask, Computer, Deliver, Forget, IsNoReport, IsStep, Make, Network, Push, Restart, Save, Send, Step, delivered, made_of, mail_changed, message_at, pushed_of, sent_of, taken, with_messages}
use Rattle.delivery.proofs.Accepting.{SaysAnother, SaysHeld, asked_right}
use Rattle.delivery.proofs.Arriving.{carriers_changed, mails_changed, message_arrives}
use Rattle.delivery.proofs.Growing.{after_asked, carrier_later, kept_later, messages_later}
use Rattle.delivery.proofs.Lists.{all_found, all_got, none_some, some_is}
use Rattle.delivery.proofs.Mails.{made_more, made_own, made_right, maker_mail, other_mail, restarted_right, saved_right, with_made}
use Rattle.delivery.proofs.Rights.{History, IsRight, IsRightMail, IsRightMessage}

module _ (n : Network) (right : IsRight n) where
  abbrev Right : Message → Type 0
  Right = IsRightMessage n.made n.accepted

  sent_more : (messages : List Message) → All Right messages → IsRight (with_messages messages n)
  sent_more messages all = record {
    made = right.made;
    accepted = right.accepted;
    computers = right.computers;
    relays = right.relays;
    messages = All-append Right n.messages messages right.messages all;
    dropped = right.dropped;
  }

  -- the report with this number, of an outbox
  sent_found : (relay name : List ℕ) (found : Option Report)
      → ((report : Report) → found ≡ Some report → Contains n.made (name, report)) → All Right (option_to_list (option_map (ReportToRelay relay) found))
  sent_found relay name None there = All-nil Right
  sent_found relay name (Some report) there =
      All-cons Right (ReportToRelay relay report) [] (made_own n.made name report right.made (there report refl)) (All-nil Right)

  send_right : (computer : List ℕ) (seq : ℕ) → All Right (sent_of seq (named computer n.computers))
  send_right computer seq =
      elim (named computer n.computers) as (λ o. named computer n.computers ≡ o → All Right (sent_of seq o)) [
        | None ↦ λ e. All-nil Right
        | Some there ↦ λ e.
            let mail = right.computers computer there e in
            sent_found there.relay computer (find (λ (report : Report). report.seq == seq) there.mail.outbox)
            (λ report found. all_found (λ (r : Report). Contains n.made (computer, r)) (λ (r : Report). r.seq == seq) there.mail.outbox report mail.outbox found)
      ] refl

  push_right : (relay : List ℕ) → All Right (pushed_of relay (named relay n.relays))
  push_right relay =
      elim (named relay n.relays) as (λ o. named relay n.relays ≡ o → All Right (pushed_of relay o)) [
        | None ↦ λ e. All-nil Right
        | Some carrier ↦ λ e. All-map Right (ReportToServer relay) carrier.queue (right.relays relay carrier e).queue
      ] refl

  forget_right : (limits : Limits) (relay : List ℕ) → IsRight (taken limits (Forget relay) n)
  forget_right limits relay = record {
    made = right.made;
    accepted = right.accepted;
    computers = right.computers;
    relays = carriers_changed n.made n.accepted relay (λ carrier. empty_carrier carrier.limit) n.relays right.relays
        (λ carrier so. record { queue = All-nil _; held = All-nil _ });
    messages = right.messages;
    dropped = right.dropped;
  }

  mail_right : (computer : List ℕ) (change : Mail → Mail)
      → ((there : Computer) → named computer n.computers ≡ Some there → IsRightMail n.made computer (change there.mail))
      → IsRight (mail_changed computer change n)
  mail_right computer change keeps = record {
    made = right.made;
    accepted = right.accepted;
    computers = mails_changed n.made n.made computer change n.computers right.computers keeps (λ other mail apart so. so);
    relays = right.relays;
    messages = right.messages;
    dropped = right.dropped;
  }

  ask_right : (limits : Limits) (request : Request) (asked : Asked) → Asks request asked → IsNoReport asked → IsRight (taken limits (Ask request asked) n)
  ask_right limits request asked asks plain =
      let later = after n.accepted limits asked in
      let more = after_asked limits n.accepted asked in
      record {
        made = right.made;
        accepted = asked_right n.made limits n.accepted right.accepted request asked plain asks;
        computers = right.computers;
        relays = λ name carrier found.
            carrier_later n.accepted later more n.made n.made (λ x in_. in_) carrier (right.relays name carrier found);
        messages = messages_later n.accepted later more n.made n.made (λ x in_. in_) n.messages right.messages;
        dropped = kept_later n.accepted later more n.dropped right.dropped;
      }

  -- ---- a report is made

  -- a computer changed its mail, and these reports were made
  abbrev Made : List ℕ → (Mail → Mail) → History → Network
  Made computer change new = record (mail_changed computer change n) { made = n.made ++ new }

  -- no report was made
  unmade : (computer : List ℕ) (change : Mail → Mail)
      → ((there : Computer) → named computer n.computers ≡ Some there → IsRightMail n.made computer (change there.mail))
      → IsRight (Made computer change [])
  unmade computer change keeps =
      subst (λ (l : History). IsRight (record (mail_changed computer change n) { made = l })) (sym (append-nil n.made)) (mail_right computer change keeps)

  module _ (computer : List ℕ) (rows : List ReportRow) (there : Computer) (stood : named computer n.computers ≡ Some there) where
    abbrev made_mail : Mail
    made_mail = saved (record there.mail { outbox = there.mail.outbox ++ report_of rows there.mail ∷ []; next = there.mail.next + 1 })

    abbrev history : History
    history = with_made computer (report_of rows there.mail) n.made

    is_there : (found : Computer) → named computer n.computers ≡ Some found → there ≡ found
    is_there found at = some_is there found (sym stood ∙ at)

    grown : (x : List ℕ × Report) → Contains n.made x → Contains history x
    grown x in_ = made_more n.made computer (report_of rows there.mail) x in_

    maker : (change : Mail → Mail) → made_mail ≡ change there.mail → (found : Computer) → named computer n.computers ≡ Some found
        → IsRightMail history computer (change found.mail)
    maker change is found at =
        subst (IsRightMail history computer) (is ∙ ap (λ (c : Computer). change c.mail) (is_there found at))
        (maker_mail n.made computer there.mail rows (right.computers computer there stood))

    made_so : (change : Mail → Mail) → made_mail ≡ change there.mail → IsReport (report_of rows there.mail)
        → IsRight (Made computer change ((computer, report_of rows there.mail) ∷ []))
    made_so change is good = record {
      made = made_right n.made computer there.mail rows (right.computers computer there stood) right.made good;
      accepted = record {
        are = right.accepted.are;
        each = λ report in_. grown (report.computer, report) (right.accepted.each report in_);
        once = right.accepted.once;
      };
      computers = mails_changed n.made history computer change n.computers right.computers (maker change is)
          (λ other mail apart so. other_mail n.made computer other (report_of rows there.mail) mail apart so);
      relays = λ name carrier found.
          carrier_later n.accepted n.accepted (λ x in_. in_) n.made history grown carrier (right.relays name carrier found);
      messages = messages_later n.accepted n.accepted (λ x in_. in_) n.made history grown n.messages right.messages;
      dropped = right.dropped;
    }

    -- at the last number nothing changes
    kept_mail : nat_lt there.mail.next last_id ≡ false → (found : Computer) → named computer n.computers ≡ Some found
        → IsRightMail n.made computer (made rows found.mail)
    kept_mail last found at =
        let is : there.mail ≡ made rows there.mail = ap (λ b. cond b made_mail there.mail) (sym last) in
        subst (IsRightMail n.made computer) (is ∙ ap (λ (c : Computer). made rows c.mail) (is_there found at)) (right.computers computer there stood)

    make_there : IsReport (report_of rows there.mail) → IsRight (Made computer (made rows) (made_of computer rows (Some there)))
    make_there good =
        elim (nat_lt there.mail.next last_id) as (λ b. nat_lt there.mail.next last_id ≡ b
        → IsRight (Made computer (made rows) (cond b ((computer, report_of rows there.mail) ∷ []) []))) [
          | true ↦ λ e. made_so (made rows) (ap (λ b. cond b made_mail there.mail) (sym e)) good
          | false ↦ λ e. unmade computer (made rows) (kept_mail e)
        ] refl

  make_right : (limits : Limits) (computer : List ℕ) (rows : List ReportRow) → IsStep n (Make computer rows) → IsRight (taken limits (Make computer rows) n)
  make_right limits computer rows step =
      elim (named computer n.computers) as (λ o. named computer n.computers ≡ o → IsRight (Made computer (made rows) (made_of computer rows o))) [
        | None ↦ λ e. unmade computer (made rows) (λ there at. absurd (none_some there (sym e ∙ at)))
        | Some there ↦ λ e. make_there computer rows there e (step there e)
      ] refl

  -- ---- any step

  module _ (limits : Limits) (short : (other : Report) → IsReport other → length (report_text other) ≤ 65536)
      (kept : (accepted : List Entry) (computer : List ℕ) (seq : ℕ) → AreAccepted accepted
      → ShowsReport accepted computer seq (report_at computer seq (view accepted)))
      (says_held : (accepted : List Entry) (report : Report) → SaysHeld limits accepted report)
      (says_another : (accepted : List Entry) (report : Report) → SaysAnother limits accepted report) where
    delivers : (found : Option Message) → ((message : Message) → found ≡ Some message → Right message) → IsRight (delivered limits found n)
    delivers None so = right
    delivers (Some message) so = message_arrives limits short kept says_held says_another n right message (so message refl)

    deliver_right : (number : ℕ) → IsRight (taken limits (Deliver number) n)
    deliver_right zero = right
    deliver_right (suc number) = delivers (slice_get n.messages number) (λ message got. all_got Right n.messages number message right.messages got)

    pub step_right : (step : Step) → IsStep n step → IsRight (taken limits step n)
    step_right (Make computer rows) is = make_right limits computer rows is
    step_right (Send computer seq) is = sent_more (sent_of seq (named computer n.computers)) (send_right computer seq)
    step_right (Push relay) is = sent_more (pushed_of relay (named relay n.relays)) (push_right relay)
    step_right (Deliver number) is = deliver_right number
    step_right (Forget relay) is = forget_right limits relay
    step_right (Save computer) is =
        mail_right computer saved (λ there found. saved_right n.made computer there.mail (right.computers computer there found))
    step_right (Restart computer) is =
        mail_right computer restarted (λ there found. restarted_right n.made computer there.mail (right.computers computer there found))
    step_right (Ask request asked) is = ask_right limits request asked is.0 is.1
