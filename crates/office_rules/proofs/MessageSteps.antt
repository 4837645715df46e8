-- The words that send and deliver messages are steps of the delivery of reports.
use Rattle.std.proofs.Common.{◌≡◌, ℕ, ◌+◌, ◌<◌, Bool, true, false, ◌||◌, cond, List, [], ◌∷◌, ◌++◌, length, Option, Some, None, refl, sym, ap, subst, ◌∙◌, arith, append_assoc, append-nil, length-append}
use Rattle.std.specs.Prelude.{All, bytes_eq, codes, drop, find, map, not, option_to_list, suc, take, zero, ◌==◌}
use Rattle.std.specs.List.{range_with_len}
use Rattle.std.specs.Option.{option_map, option_or}
use Rattle.std.proofs.lemmas.List.{length-map, take-append-drop}
use Rattle.std.proofs.lemmas.List.Elements.{All-map, All-nil, All-push}
use Rattle.std.proofs.lemmas.List.Folds.{find-append}
use Rattle.std.proofs.lemmas.Option.{slice_get_past}
use Rattle.report_text.specs.declared.answer.Verdict.{Verdict}
use Rattle.report_text.specs.declared.answer.Verdict.TheVariants as verdicts
use Rattle.report_text.specs.declared.report.Report.{Report}
use Rattle.relay_core.specs.ReportKeys.{ReportKey, key_of, report_digest}
use Rattle.relay_core.specs.Relays.{RelayState}
use Rattle.relay_core.specs.ReportsUp.{has_place, is_queued, with_held, without}
use Rattle.agent_state.specs.Changes.{SettlesState, has_report, without_report}
use Rattle.agent_state.specs.States.{State}
use Rattle.agent_core.specs.Schedules.{HasSaved, IsMailOf, Mail, settled}
use Rattle.server_text.specs.Entries.{Asked, Enters, Entry, Reported}
use Rattle.server_core.specs.CallAnswers.{after}
use Rattle.server_core.specs.DeskLimits.{desk_limits}
use Rattle.server_core.specs.Replies.{reply}
use Rattle.delivery.specs.Arrivals.{arrives, carried, held_by, told as told_to, verdict_of}
use Rattle.delivery.specs.Messages.{Carrier, Message, ReportToRelay, ReportToServer, VerdictToComputer, ReplyToRelay, carrier_of, changed, named, relay_of}
use Rattle.delivery.specs.Schedules.{Computer, Deliver, Network, Push, Send, Step, at_computer, delivered, heard, message_at, pushed_of, reached, sent_of, with_arrived, with_mail}
use Rattle.office_rules.specs.Deeds.{DoesEach}
use Rattle.office_rules.specs.MessageWords.{DeliversAnswered, DeliversAt, DeliversFound, Dispatches, Forwards, Pushes, PushesQueue, Reaches, ReportsAll, ReportsOne, Sends, SendsFound, Tells, next_number, shown_numbers, shown_report}
use Rattle.office_rules.specs.Offices.{IsSoundComputer, IsSoundOffice, Office, PlayedComputer, carriers_of}
use Rattle.office_rules.specs.WordSteps.{forward_steps, numbers_of, queued_of, report_steps, send_steps, shown_at, shown_of}
use Rattle.office_rules.proofs.Networks.{Ends, FollowsOffice, IsKnown, along, carrier_follows, computer_there, ends_both, finds_like, mail_follows, messages_follow, named_carrier, no_steps, relay_there}
use Rattle.office_rules.proofs.Numbered.{AreOfAnswered, AreOfOne, AreSent, answers_numbered, are_sent, one_report, reports_numbered}
use Rattle.office_rules.proofs.UnderNames.{all_got, all_looked, set_named}
use Rattle.office_rules.proofs.DeedSteps.{IsStepsFrom, each_steps}

-- ---- send
-- a report that is shown is in the outbox
shown_found : (seq : ℕ) (s : State) (report : Report) → shown_report seq s ≡ Some report → find (λ (r : Report). r.seq == seq) s.reports ≡ Some report
shown_found seq s report e =
    let test : Report → Bool = λ r. r.seq == seq in
    ap (λ (l : List Report). find test l) (sym (take-append-drop s.shown s.reports)) ∙ find-append test (take s.shown s.reports) (drop s.shown s.reports)
    ∙ ap (λ (o : Option Report). option_or o (find test (drop s.shown s.reports))) e

sends_found : (coming : List (List ℕ × Computer)) (later : List (List ℕ × Carrier)) (n : Network) (name : List ℕ) (seq : ℕ) (old : Office) (said : List ℕ) (new : Office) (computer : PlayedComputer) → FollowsOffice coming later n old
    → named name old.computers ≡ Some computer → (o : Option Report) → shown_report seq computer.agent ≡ o → SendsFound name seq computer.relay o old said new → Ends coming later n (send_steps name seq o) new
sends_found coming later n name seq old said new computer f here None e p = no_steps coming later n old new p.1 f
sends_found coming later n name seq old said new computer f here (Some report) e p =
    let found = finds_like name f.front old.computers computer here f.like in
    let there = computer_there coming later name n old.accepted old.messages (carriers_of old.relays) old.computers computer f found in
    let message : Message = ReportToRelay computer.relay report in
    let one : option_to_list (option_map (ReportToRelay found.there.relay) (find (λ (r : Report). r.seq == seq) found.there.mail.outbox)) ≡ message ∷ [] =
    ap (λ (l : List Report). option_to_list (option_map (ReportToRelay found.there.relay) (find (λ (r : Report). r.seq == seq) l))) found.mail.outbox
    ∙ ap (λ (x : Option Report). option_to_list (option_map (ReportToRelay found.there.relay) x)) (shown_found seq computer.agent report e)
    ∙ ap (λ (r : List ℕ). ReportToRelay r report ∷ []) found.relay in
    subst (λ (o : Office). Ends coming later n (Send name seq ∷ []) o) (sym p.1) (record {
      schedule = (tt, tt);
      follows = messages_follow coming later n old.accepted old.messages (carriers_of old.relays) old.computers (sent_of seq (named name n.computers)) (message ∷ [])
          (ap (λ (x : Option Computer). sent_of seq x) there ∙ one) (All-push (IsKnown (carriers_of old.relays)) [] message (All-nil (IsKnown (carriers_of old.relays))) tt) f;
    })

shown_is : (name : List ℕ) (seq : ℕ) (old : Office) (computer : PlayedComputer) → named name old.computers ≡ Some computer → shown_report seq computer.agent ≡ shown_at name seq old
shown_is name seq old computer here = ap (λ (x : Option PlayedComputer). shown_of seq x) (sym here)

pub sending : (name : List ℕ) (seq : ℕ) (old : Office) → IsStepsFrom old (Sends name seq) (λ before steps. steps ≡ send_steps name seq (shown_at name seq before))
sending name seq old coming later n said new f (computer, here, p) = (
  send_steps name seq (shown_report seq computer.agent),
  ap (λ (o : Option Report). send_steps name seq o) (shown_is name seq old computer here),
  sends_found coming later n name seq old said new computer f here (shown_report seq computer.agent) refl p,
)

-- ---- push
dispatched : (name to : List ℕ) (queue : List Report) (old : Office) (said : List ℕ) (new : Office) → DoesEach (λ (report : Report). Dispatches (ReportToServer name report) report to) queue old said new
    → new ≡ record old { messages = old.messages ++ map (ReportToServer name) queue }
dispatched name to [] old said new p = p.1 ∙ ap (λ (l : List Message). record old { messages = l }) (sym (append-nil old.messages))
dispatched name to (report ∷ queue) old said new (mid, a, b, p, q, is) =
    let more = dispatched name to queue mid b new q in
    more ∙ ap (λ (o : Office). record o { messages = o.messages ++ map (ReportToServer name) queue }) p.1
    ∙ ap (λ (l : List Message). record old { messages = l }) (append_assoc old.messages (ReportToServer name report ∷ []) (map (ReportToServer name) queue))

queue_sent : (name : List ℕ) (queue : List Report) (old : Office) (said : List ℕ) (new : Office) → PushesQueue name queue old said new → new ≡ record old { messages = old.messages ++ map (ReportToServer name) queue }
queue_sent name [] old said new p = p.1 ∙ ap (λ (l : List Message). record old { messages = l }) (sym (append-nil old.messages))
queue_sent name (report ∷ queue) old said new p = dispatched name (codes "server") (report ∷ queue) old said new p

pushes_queue : (coming : List (List ℕ × Computer)) (later : List (List ℕ × Carrier)) (n : Network) (name : List ℕ) (old : Office) (said : List ℕ) (new : Office) (relay : RelayState) → FollowsOffice coming later n old
    → named name old.relays ≡ Some relay → PushesQueue name relay.queue old said new → Ends coming later n (Push name ∷ []) new
pushes_queue coming later n name old said new relay f here p =
    let carriers = carriers_of old.relays in
    let carrier = named_carrier name old.relays relay here in
    let there = relay_there coming later name n old.accepted old.messages carriers old.computers (carrier_of relay) carrier f in
    subst (λ (o : Office). Ends coming later n (Push name ∷ []) o) (sym (queue_sent name relay.queue old said new p)) (record {
      schedule = (tt, tt);
      follows = messages_follow coming later n old.accepted old.messages carriers old.computers (pushed_of name (named name n.relays)) (map (ReportToServer name) relay.queue)
          (ap (λ (x : Option Carrier). pushed_of name x) there) (All-map (IsKnown carriers) (ReportToServer name) relay.queue (λ i d within. (carrier_of relay, carrier))) f;
    })

pub pushing : (name : List ℕ) (old : Office) → IsStepsFrom old (Pushes name) (λ before steps. steps ≡ Push name ∷ [])
pushing name old coming later n said new f (relay, here, p) = (Push name ∷ [], refl, pushes_queue coming later n name old said new relay f here p)

-- ---- deliver
carried_limit : (report : Report) (carrier : Carrier) → (carried report carrier).limit ≡ carrier.limit
carried_limit report carrier = by (has_place (relay_of carrier) (key_of report))
  where
    by : (b : Bool) → (carrier_of (cond b (record (relay_of carrier) { queue = carrier.queue ++ report ∷ [] }) (relay_of carrier))).limit ≡ carrier.limit
    by true = refl
    by false = refl

told_limit : (key : ReportKey) (held : Option (List ℕ)) (carrier : Carrier) → (told_to key held carrier).limit ≡ carrier.limit
told_limit key None carrier = refl
told_limit key (Some digest) carrier = by (is_queued (relay_of carrier) key)
  where
    by : (b : Bool) → (carrier_of (cond b (record (relay_of carrier) { queue = without key carrier.queue; held = with_held key digest carrier.held }) (relay_of carrier))).limit ≡ carrier.limit
    by true = refl
    by false = refl

-- a verdict comes of a relay that is there
carrier_there : (report : Report) (o : Option Carrier) (answer : Message) → verdict_of report o ≡ Some answer → (carrier : Carrier) × (o ≡ Some carrier)
carrier_there report None answer e = absurd (cc)
carrier_there report (Some carrier) answer e = (carrier, refl)

verdict_known : (carriers : List (List ℕ × Carrier)) (report : Report) (o : Option Carrier) → All (IsKnown carriers) (option_to_list (verdict_of report o))
verdict_known carriers report None = All-nil (IsKnown carriers)
verdict_known carriers report (Some carrier) = All-push (IsKnown carriers) [] _ (All-nil (IsKnown carriers)) tt

-- a report that isn't there isn't dropped
none_dropped : (seq : ℕ) (reports : List Report) → has_report seq reports ≡ false → without_report seq reports ≡ reports
none_dropped seq [] e = refl
none_dropped seq (report ∷ reports) e = by (report.seq == seq) e (none_dropped seq reports)
  where
    by : (b : Bool) → (b || has_report seq reports) ≡ false → (has_report seq reports ≡ false → without_report seq reports ≡ reports) → cond (not b) (report ∷ without_report seq reports) (without_report seq reports) ≡ report ∷ reports
    by true e next = absurd (cc)
    by false e next = ap (λ (l : List Report). report ∷ l) (next e)

settled_kept : (seq : ℕ) (m : Mail) (now : Option (List ℕ)) → HasSaved m now → HasSaved (settled seq m) now
settled_kept seq m None h = h
settled_kept seq m (Some text) h = h

heard_mail : (seq : ℕ) (verdict : Verdict) (m : Mail) (s : State) (dropped : Bool) (s2 : State) (now : Option (List ℕ)) → SettlesState seq verdict s dropped s2 → IsMailOf m s (Some now) → IsMailOf (heard seq verdict m) s2 (Some now)
heard_mail seq verdicts.Stored m s true s2 now h is =
    subst (λ (x : State). IsMailOf (settled seq m) x (Some now)) (sym h.1) (record { computer = is.computer; next = is.next; outbox = ap (λ (l : List Report). without_report seq l) is.outbox; kept = settled_kept seq m now is.kept })
heard_mail seq verdicts.Stored m s false s2 now h is =
    subst (λ (x : State). IsMailOf (settled seq m) x (Some now)) (sym h.1)
    (record { computer = is.computer; next = is.next; outbox = ap (λ (l : List Report). without_report seq l) is.outbox ∙ none_dropped seq s.reports h.0; kept = settled_kept seq m now is.kept })
heard_mail seq verdicts.Carried m s dropped s2 now h is = subst (λ (x : State). IsMailOf m x (Some now)) (sym h.1) is
heard_mail seq (verdicts.Conflict digest) m s dropped s2 now h is = subst (λ (x : State). IsMailOf m x (Some now)) (sym h.1) is
heard_mail seq (verdicts.Full limit) m s dropped s2 now h is = subst (λ (x : State). IsMailOf m x (Some now)) (sym h.1) is

heard_own : (seq : ℕ) (verdict : Verdict) (m : Mail) → (heard seq verdict m).computer ≡ m.computer
heard_own seq verdicts.Stored m = refl
heard_own seq verdicts.Carried m = refl
heard_own seq (verdicts.Conflict digest) m = refl
heard_own seq (verdicts.Full limit) m = refl

module _ (coming : List (List ℕ × Computer)) (later : List (List ℕ × Carrier)) (n : Network) (old new : Office) (f : FollowsOffice coming later n old) where
  abbrev Delivered : Message → Type 0
  Delivered message = FollowsOffice coming later (at_computer message (with_arrived (arrives desk_limits n.accepted n.relays message) n)) new

  abbrev carriers : List (List ℕ × Carrier)
  carriers = carriers_of old.relays

  arriving : (message : Message) (said : List (List ℕ)) → IsKnown carriers message → Reaches old message new → Tells message old said new.computers → Delivered message
  arriving (ReportToRelay relay report) said known r (says, same) =
      let there = carrier_there report (named relay carriers) says.0 says.2 in
      let change : Carrier → Carrier = carried report in
      let one = carrier_follows coming later relay change n old.accepted old.messages carriers old.computers there.0 there.1 (carried_limit report) f in
      let found = relay_there coming later relay n old.accepted old.messages carriers old.computers there.0 there.1 f in
      along coming later _ _ _ _ _ _ _ _ _ r.accepted r.messages r.carriers same
      (messages_follow coming later (record n { relays = changed relay change n.relays }) old.accepted old.messages (changed relay change carriers) old.computers (option_to_list (verdict_of report (named relay n.relays)))
      (option_to_list (verdict_of report (named relay carriers))) (ap (λ (x : Option Carrier). option_to_list (verdict_of report x)) (found ∙ sym there.1))
      (verdict_known (changed relay change carriers) report (named relay carriers)) one)
  arriving (ReportToServer relay report) said known r (says, same) =
      let entered : Asked = Enters (Reported report) in
      let answer : List Entry → Message = λ a. ReplyToRelay relay (key_of report) (report_digest report) (reply a desk_limits entered) in
      along coming later _ _ _ _ _ _ _ _ _ r.accepted r.messages r.carriers same (record {
        accepted_are = ap (λ (a : List Entry). after a desk_limits entered) f.accepted_are;
        messages_are = ap (λ (l : List Message). l ++ answer n.accepted ∷ []) f.messages_are ∙ ap (λ (a : List Entry). old.messages ++ answer a ∷ []) f.accepted_are;
        relays_are = f.relays_are;
        front = f.front;
        computers_are = f.computers_are;
        like = f.like;
        desk = f.desk;
        known = All-push (IsKnown carriers) old.messages (answer old.accepted) f.known known;
      })
  arriving (VerdictToComputer name seq verdict) said known r (computer, agent, dropped, here, settles, says, same) =
      let found = finds_like name f.front old.computers computer here f.like in
      let there = computer_there coming later name n old.accepted old.messages carriers old.computers computer f found in
      let mail = heard_mail seq verdict found.there.mail computer.agent dropped agent computer.saved settles found.mail in
      let anew : PlayedComputer = record computer { agent = agent } in
      let one = mail_follows coming later name n (at_computer (VerdictToComputer name seq verdict) (with_arrived (arrives desk_limits n.accepted n.relays (VerdictToComputer name seq verdict)) n)) old.accepted old.messages carriers
      old.computers computer anew (heard seq verdict found.there.mail) here f found refl (append-nil n.messages) refl (set_named name (with_mail (heard seq verdict)) n.computers found.there there) mail refl
      (sym mail.computer ∙ heard_own seq verdict found.there.mail ∙ found.mail.computer) in
      along coming later _ _ _ _ _ _ _ _ _ r.accepted (r.messages ∙ append-nil old.messages) r.carriers same one
  arriving (ReplyToRelay relay key digest answered) said known r (says, same) =
      let change : Carrier → Carrier = told_to key (held_by digest answered) in
      let one = carrier_follows coming later relay change n old.accepted old.messages carriers old.computers known.0 known.1 (told_limit key (held_by digest answered)) f in
      along coming later _ _ _ _ _ _ _ _ _ r.accepted r.messages r.carriers same
      (messages_follow coming later (record n { relays = changed relay change n.relays }) old.accepted old.messages (changed relay change carriers) old.computers [] [] refl (All-nil (IsKnown (changed relay change carriers))) one)

message_known : (carriers : List (List ℕ × Carrier)) (messages : List Message) (number : ℕ) (message : Message) → All (IsKnown carriers) messages → message_at number messages ≡ Some message → IsKnown carriers message
message_known carriers messages zero message all e = absurd (cc)
message_known carriers messages (suc number) message all e = all_got (IsKnown carriers) messages number message all e

delivers : (coming : List (List ℕ × Computer)) (later : List (List ℕ × Carrier)) (n : Network) (number : ℕ) (old : Office) (said : List ℕ) (new : Office) → FollowsOffice coming later n old → DeliversAt number old said new
    → Ends coming later n (Deliver number ∷ []) new
delivers coming later n number old said new f p = record {
  schedule = (tt, tt);
  follows = subst (λ (x : Option Message). FollowsOffice coming later (delivered desk_limits x n) new) (sym (ap (λ (l : List Message). message_at number l) f.messages_are)) (by (message_at number old.messages) refl p);
}
  where
    by : (o : Option Message) → message_at number old.messages ≡ o → DeliversFound number o old said new → FollowsOffice coming later (delivered desk_limits o n) new
    by None e p = subst (λ (o : Office). FollowsOffice coming later n o) (sym p.1) f
    by (Some message) e p = arriving coming later n old new f message p.words (message_known (carriers_of old.relays) old.messages number message f.known e) p.reaches p.tells

pub delivering : (number : ℕ) (old : Office) → IsStepsFrom old (DeliversAt number) (λ before steps. steps ≡ Deliver number ∷ [])
delivering number old coming later n said new f p = (Deliver number ∷ [], refl, delivers coming later n number old said new f p)

answering : (number : ℕ) (old : Office) → IsStepsFrom old (DeliversAnswered number) (AreOfAnswered number)
answering number old coming later n said new f (mid, a, b, p, q, is) =
    let one = delivers coming later n number old a mid f p in (
      Deliver number ∷ Deliver (next_number old) ∷ [],
      refl,
      ends_both coming later n (Deliver number ∷ []) (Deliver (next_number old) ∷ []) mid new one
          (delivers coming later (reached desk_limits n (Deliver number ∷ [])) (next_number old) mid b new one.follows q),
    )

-- ---- report
no_message : (number : ℕ) (messages : List Message) → length messages < number → message_at number messages ≡ None
no_message zero messages more = refl
no_message (suc number) messages more = slice_get_past messages number (omega (arith, more))

no_delivery : (number : ℕ) (old : Office) (said : List ℕ) (new : Office) → length old.messages < number → DeliversAt number old said new → new ≡ old
no_delivery number old said new more p = (subst (λ (o : Option Message). DeliversFound number o old said new) (no_message number old.messages more) p).1

report_found : (coming : List (List ℕ × Computer)) (later : List (List ℕ × Carrier)) (n : Network) (name : List ℕ) (seq : ℕ) (old : Office) (a b : List ℕ) (mid new : Office) (computer : PlayedComputer) → FollowsOffice coming later n old
    → named name old.computers ≡ Some computer → (o : Option Report) → shown_report seq computer.agent ≡ o → SendsFound name seq computer.relay o old a mid → DeliversAnswered (next_number old) mid b new
    → Ends coming later n (one_report name seq (next_number old) o) new
report_found coming later n name seq old a b mid new computer f here None e p (far, c, d, q, r, is) =
    let first : far ≡ mid = no_delivery (next_number old) mid c far (less mid old p.1) q in
    let second : new ≡ far = no_delivery (next_number mid) far d new (less far mid first) r in
    no_steps coming later n old new (second ∙ first ∙ p.1) f
  where
    less : (x y : Office) → x ≡ y → length x.messages < next_number y
    less x y same = let l : length x.messages ≡ length y.messages = ap (λ (o : Office). length o.messages) same in omega (arith, l)
report_found coming later n name seq old a b mid new computer f here (Some report) e p (far, c, d, q, r, is) =
    let number = next_number old in
    let sent = sends_found coming later n name seq old a mid computer f here (Some report) e p in
    let n2 : Network = reached desk_limits n (Send name seq ∷ []) in
    let one = delivers coming later n2 number mid c far sent.follows q in
    let n3 : Network = reached desk_limits n2 (Deliver number ∷ []) in
    let two = delivers coming later n3 (next_number mid) far d new one.follows r in
    subst (λ (k : ℕ). Ends coming later n (Send name seq ∷ Deliver number ∷ Deliver k ∷ []) new) counted
    (ends_both coming later n (Send name seq ∷ []) (Deliver number ∷ Deliver (next_number mid) ∷ []) mid new sent
    (ends_both coming later n2 (Deliver number ∷ []) (Deliver (next_number mid) ∷ []) far new one two))
  where
    counted : next_number mid ≡ next_number old + 1
    counted =
        let l : length mid.messages ≡ length (old.messages ++ ReportToRelay computer.relay report ∷ []) = ap (λ (o : Office). length o.messages) p.1 in
        let k : length (old.messages ++ ReportToRelay computer.relay report ∷ []) ≡ length old.messages + 1 = length-append old.messages (ReportToRelay computer.relay report ∷ []) in
        omega (arith, l, k)

reporting_one : (name : List ℕ) (seq : ℕ) (old : Office) → IsStepsFrom old (ReportsOne name seq) (AreOfOne name seq)
reporting_one name seq old coming later n said new f (mid, a, b, (computer, here, p), q, is) = (
  one_report name seq (next_number old) (shown_report seq computer.agent),
  ap (λ (o : Option Report). one_report name seq (next_number old) o) (shown_is name seq old computer here),
  report_found coming later n name seq old a b mid new computer f here (shown_report seq computer.agent) refl p q,
)

pub reporting : (name : List ℕ) (old : Office) → IsSoundOffice old → IsStepsFrom old (ReportsAll name) (λ before steps. steps ≡ report_steps name (next_number before) (numbers_of (named name before.computers)))
reporting name old sound coming later n said new f (computer, here, p) =
    let all = each_steps (ReportsOne name) (AreOfOne name) (reporting_one name) (shown_numbers computer.agent) old coming later n said new f p in
    let good = all_looked (λ (entry : List ℕ × PlayedComputer). IsSoundComputer entry.1) (bytes_eq name) old.computers computer sound.computers here in (
      all.0,
      reports_numbered name old computer all.0 here good.2.sound all.1 ∙ ap (λ (o : Option PlayedComputer). report_steps name (next_number old) (numbers_of o)) (sym here),
      all.2,
    )

-- ---- forward
pub forwarding : (name : List ℕ) (old : Office) → IsStepsFrom old (Forwards name) (λ before steps. steps ≡ forward_steps name (next_number before) (queued_of (named name before.relays)))
forwarding name old coming later n said new f (relay, here, (mid, a, b, p, q, is)) =
    let count = length relay.queue in
    let pushed = pushes_queue coming later n name old a mid relay f here p in
    let more = each_steps DeliversAnswered AreOfAnswered answering (range_with_len (next_number old) count) mid coming later (reached desk_limits n (Push name ∷ [])) b new pushed.follows q in
    let sent : mid.messages ≡ old.messages ++ map (ReportToServer name) relay.queue = ap (λ (o : Office). o.messages) (queue_sent name relay.queue old a mid p) in
    let numbered = answers_numbered name count relay.queue (next_number old) mid more.0 (counted mid sent)
    (subst (λ (l : List Message). AreSent name l (next_number old) relay.queue) (sym sent) (are_sent name old.messages relay.queue)) more.1 in (
      Push name ∷ more.0,
      ap (λ (l : List Step). Push name ∷ l) numbered ∙ ap (λ (o : Option RelayState). forward_steps name (next_number old) (queued_of o)) (sym here),
      ends_both coming later n (Push name ∷ []) more.0 mid new pushed more.2,
    )
  where
    counted : (mid : Office) → mid.messages ≡ old.messages ++ map (ReportToServer name) relay.queue → next_number mid ≡ next_number old + length relay.queue
    counted mid sent =
        let k : length mid.messages ≡ length old.messages + length (map (ReportToServer name) relay.queue) = ap (λ (l : List Message). length l) sent ∙ length-append old.messages (map (ReportToServer name) relay.queue) in
        let l : length (map (ReportToServer name) relay.queue) ≡ length relay.queue = length-map relay.queue (ReportToServer name) in
        omega (arith, k, l)
