-- The numbers of the messages of `report` and `forward`, and that each report of a `report` is still found when it is sent.
use Rattle.std.proofs.Common.{◌≡◌, ◌≢◌, ◌⊎◌, ℕ, ◌+◌, ◌<◌, Bool, true, false, cond, List, [], ◌∷◌, ◌++◌, length, inl, inr, Option, Some, None, refl, sym, ap, subst, ◌∙◌, arith, append_assoc, append-nil, length-append}
use Rattle.std.specs.Prelude.{All, bytes_eq, find, flat_map, map, not, option_to_list, slice_get, slice_index_or, suc, take, zero, ◌==◌, ⊤}
use Rattle.std.specs.List.{AllPairs, range_with_len}
use Rattle.std.specs.Map.{set_value}
use Rattle.std.proofs.Math.Seq.{get_or-append_seam}
use Rattle.std.proofs.lemmas.Bool.{eq-eqb, eqb-true}
use Rattle.std.proofs.lemmas.Bool.Decides.{eqb_tells}
use Rattle.std.proofs.lemmas.List.{get_or_append_left, take-map}
use Rattle.std.proofs.lemmas.List.Elements.{All-cons, All-head, All-nil, All-tail, All-take, All-weaker}
use Rattle.std.proofs.lemmas.List.Kept.{AllPairs-from_increasing}
use Rattle.std.proofs.lemmas.Option.{get_or_from_slice_get, slice_get-get_or, slice_get_within}
use Rattle.report_text.specs.declared.answer.Verdict.{Verdict}
use Rattle.report_text.specs.declared.answer.Verdict.TheVariants as verdicts
use Rattle.report_text.specs.declared.report.Report.{Report}
use Rattle.relay_core.specs.ReportKeys.{key_of, report_digest}
use Rattle.relay_core.specs.ReportsUp.{up_verdict}
use Rattle.agent_state.specs.Changes.{SettlesState, shown_without, without_report}
use Rattle.agent_state.specs.States.{IsSound, State}
use Rattle.agent_core.specs.ShownReports.{shown_reports}
use Rattle.server_text.specs.Entries.{Enters, Reported}
use Rattle.server_core.specs.DeskLimits.{desk_limits}
use Rattle.server_core.specs.Replies.{reply}
use Rattle.delivery.specs.Arrivals.{verdict_of}
use Rattle.delivery.specs.Messages.{Carrier, Message, ReportToRelay, ReportToServer, VerdictToComputer, ReplyToRelay, named, relay_of}
use Rattle.delivery.specs.Schedules.{Deliver, Send, Step, message_at}
use Rattle.office_rules.specs.MessageWords.{DeliversAnswered, DeliversAt, DeliversFound, Delivers, ReportsOne, SendsFound, Tells, next_number, shown_numbers, shown_report}
use Rattle.office_rules.specs.Offices.{Office, PlayedComputer, carriers_of}
use Rattle.office_rules.specs.WordSteps.{AreOfEach, report_steps, shown_at, shown_of}
use Rattle.office_rules.proofs.OneDeed.{some_is}
use Rattle.office_rules.proofs.UnderNames.{set_named}

-- ---- messages by their numbers
at_front : (number : ℕ) (xs ys : List Message) (m : Message) → message_at number xs ≡ Some m → message_at number (xs ++ ys) ≡ Some m
at_front zero xs ys m e = absurd (cc)
at_front (suc i) xs ys m e =
    let within : i < length xs = slice_get_within xs i m e in
    let more : length (xs ++ ys) ≡ length xs + length ys = length-append xs ys in
    slice_get-get_or (xs ++ ys) i m (omega (arith, within, more)) ∙ ap (λ (x : Message). Some x) (get_or_append_left xs ys m i within ∙ get_or_from_slice_get xs i m m e)

at_end : (number : ℕ) (xs ys : List Message) (m : Message) → number ≡ length xs + 1 → message_at number (xs ++ m ∷ ys) ≡ Some m
at_end zero xs ys m e = absurd (omega (arith, e))
at_end (suc i) xs ys m e =
    let more : length (xs ++ m ∷ ys) ≡ length xs + length (m ∷ ys) = length-append xs (m ∷ ys) in
    let place : length xs ≡ i = omega (arith, e) in
    subst (λ (j : ℕ). slice_get (xs ++ m ∷ ys) j ≡ Some m) place
    (slice_get-get_or (xs ++ m ∷ ys) (length xs) m (omega (arith, more)) ∙ ap (λ (x : Message). Some x) (get_or-append_seam xs m ys m))

-- ---- forward
-- the messages from this number on are these reports to the server
abbrev pub AreSent : List ℕ → List Message → ℕ → List Report → Type 0
AreSent name messages number [] = ⊤
AreSent name messages number (report ∷ queue) = (message_at number messages ≡ Some (ReportToServer name report)) × AreSent name messages (number + 1) queue

pub are_sent : (name : List ℕ) (before : List Message) (queue : List Report) → AreSent name (before ++ map (ReportToServer name) queue) (length before + 1) queue
are_sent name before [] = tt
are_sent name before (report ∷ queue) =
    let m : Message = ReportToServer name report in
    let more = map (ReportToServer name) queue in
    let count : length (before ++ m ∷ []) ≡ length before + 1 = length-append before (m ∷ []) in (
      at_end (length before + 1) before more m refl,
      subst (λ (k : ℕ). AreSent name (before ++ m ∷ more) (k + 1) queue) count
          (subst (λ (l : List Message). AreSent name l (length (before ++ m ∷ []) + 1) queue) (append_assoc before (m ∷ []) more) (are_sent name (before ++ m ∷ []) queue)),
    )

still_sent : (name : List ℕ) (xs ys : List Message) (number : ℕ) (queue : List Report) → AreSent name xs number queue → AreSent name (xs ++ ys) number queue
still_sent name xs ys number [] h = tt
still_sent name xs ys number (report ∷ queue) h = (at_front number xs ys (ReportToServer name report) h.0, still_sent name xs ys (number + 1) queue h.1)

-- a message that is there arrives
arrival : (number : ℕ) (message : Message) (old : Office) (said : List ℕ) (new : Office) → message_at number old.messages ≡ Some message → DeliversAt number old said new → Delivers number message old said new
arrival number message old said new e p = subst (λ (o : Option Message). DeliversFound number o old said new) e p

-- a report to the server that arrives, and then its answer, are one message more
answered_one : (number : ℕ) (name : List ℕ) (report : Report) (old : Office) (said : List ℕ) (new : Office) → message_at number old.messages ≡ Some (ReportToServer name report) → DeliversAnswered number old said new
    → (m : Message) × (new.messages ≡ old.messages ++ m ∷ [])
answered_one number name report old said new e (mid, a, b, p, q, is) =
    let m : Message = ReplyToRelay name (key_of report) (report_digest report) (reply old.accepted desk_limits (Enters (Reported report))) in
    let one = arrival number (ReportToServer name report) old a mid e p in
    let first : mid.messages ≡ old.messages ++ m ∷ [] = one.reaches.messages in
    let two = arrival (next_number old) m mid b new (ap (λ (l : List Message). message_at (next_number old) l) first ∙ at_end (next_number old) old.messages [] m refl) q in
    (m, two.reaches.messages ∙ append-nil mid.messages ∙ first)

abbrev pub AreOfAnswered : ℕ → Office → List Step → Type 0
AreOfAnswered number before steps = steps ≡ Deliver number ∷ Deliver (next_number before) ∷ []

pub answers_numbered : (name : List ℕ) (count : ℕ) (queue : List Report) (number : ℕ) (old : Office) (steps : List Step) → next_number old ≡ number + count → AreSent name old.messages number queue
    → AreOfEach DeliversAnswered AreOfAnswered (range_with_len number (length queue)) old steps
    → steps ≡ flat_map (λ (k : ℕ). Deliver k ∷ Deliver (k + count) ∷ []) (range_with_len number (length queue))
answers_numbered name count [] number old steps e sent h = h
answers_numbered name count (report ∷ queue) number old steps e sent (between, said, one, other, does, ones, more, is) =
    let added = answered_one number name report old said between sent.0 does in
    let longer : length between.messages ≡ length (old.messages ++ added.0 ∷ []) = ap (λ (l : List Message). length l) added.1 in
    let by_one : length (old.messages ++ added.0 ∷ []) ≡ length old.messages + 1 = length-append old.messages (added.0 ∷ []) in
    let rest = answers_numbered name count queue (number + 1) between other (omega (arith, e, longer, by_one))
    (subst (λ (l : List Message). AreSent name l (number + 1) queue) (sym added.1) (still_sent name old.messages (added.0 ∷ []) (number + 1) queue sent.1)) more in
    is ∙ ap (λ (l : List Step). l ++ other) (ones ∙ ap (λ (k : ℕ). Deliver number ∷ Deliver k ∷ []) e) ∙ ap (λ (l : List Step). Deliver number ∷ Deliver (number + count) ∷ l) rest

-- ---- what is found of reports
abbrev Finds : List Report → ℕ → Type 0
Finds reports seq = (report : Report) × (find (λ (r : Report). r.seq == seq) reports ≡ Some report)

finds_own : (report : Report) (reports : List Report) → Finds (report ∷ reports) report.seq
finds_own report reports = (report, ap (λ (b : Bool). cond b (Some report) (find (λ (r : Report). r.seq == report.seq) reports)) (eq-eqb report.seq report.seq refl))

finds_more : (first : Report) (reports : List Report) (seq : ℕ) → Finds reports seq → Finds (first ∷ reports) seq
finds_more first reports seq (report, e) = by (first.seq == seq)
  where
    by : (b : Bool) → (found : Report) × (cond b (Some first) (find (λ (r : Report). r.seq == seq) reports) ≡ Some found)
    by true = (first, refl)
    by false = (report, e)

finds_each : (reports : List Report) → All (Finds reports) (map (λ (r : Report). r.seq) reports)
finds_each [] = All-nil (Finds [])
finds_each (report ∷ reports) =
    All-cons (Finds (report ∷ reports)) report.seq (map (λ (r : Report). r.seq) reports) (finds_own report reports)
    (All-weaker (Finds reports) (Finds (report ∷ reports)) (finds_more report reports) (map (λ (r : Report). r.seq) reports) (finds_each reports))

-- what is found has the number
found_number : (seq : ℕ) (reports : List Report) (report : Report) → find (λ (r : Report). r.seq == seq) reports ≡ Some report → report.seq ≡ seq
found_number seq [] report e = absurd (cc)
found_number seq (first ∷ reports) report e = by (first.seq == seq) refl e (found_number seq reports report)
  where
    by : (b : Bool) → (first.seq == seq) ≡ b → cond b (Some first) (find (λ (r : Report). r.seq == seq) reports) ≡ Some report
        → (find (λ (r : Report). r.seq == seq) reports ≡ Some report → report.seq ≡ seq) → report.seq ≡ seq
    by true is e next = ap (λ (r : Report). r.seq) (sym (some_is first report e)) ∙ eqb-true first.seq seq is
    by false is e next = next e

-- ---- what stays found as another report is dropped
taken_more : (seq k : ℕ) (reports : List Report) (report : Report) → find (λ (r : Report). r.seq == seq) (take k reports) ≡ Some report → find (λ (r : Report). r.seq == seq) (take (suc k) reports) ≡ Some report
taken_more seq zero reports report e = absurd (cc)
taken_more seq (suc k) [] report e = absurd (cc)
taken_more seq (suc k) (first ∷ reports) report e = by (first.seq == seq) e (taken_more seq k reports report)
  where
    by : (b : Bool) → cond b (Some first) (find (λ (r : Report). r.seq == seq) (take k reports)) ≡ Some report
        → (find (λ (r : Report). r.seq == seq) (take k reports) ≡ Some report → find (λ (r : Report). r.seq == seq) (take (suc k) reports) ≡ Some report)
        → cond b (Some first) (find (λ (r : Report). r.seq == seq) (take (suc k) reports)) ≡ Some report
    by true e next = e
    by false e next = next e

module _ (dropped other : ℕ) (apart : (dropped == other) ≡ false) where
  -- a report that is dropped isn't the other
  is_other : (report : Report) → (report.seq == dropped) ≡ true → (report.seq == other) ≡ false
  is_other report is = subst (λ (k : ℕ). (k == other) ≡ false) (sym (eqb-true report.seq dropped is)) apart

  behind : (first : Report) (reports : List Report) (report : Report) → (first.seq == dropped) ≡ true → find (λ (r : Report). r.seq == other) (first ∷ reports) ≡ Some report → find (λ (r : Report). r.seq == other) reports ≡ Some report
  behind first reports report is e = sym (ap (λ (b : Bool). cond b (Some first) (find (λ (r : Report). r.seq == other) reports)) (is_other first is)) ∙ e

  along_first : (first : Report) (xs ys : List Report) (report : Report) → find (λ (r : Report). r.seq == other) (first ∷ xs) ≡ Some report
      → (find (λ (r : Report). r.seq == other) xs ≡ Some report → find (λ (r : Report). r.seq == other) ys ≡ Some report) → find (λ (r : Report). r.seq == other) (first ∷ ys) ≡ Some report
  along_first first xs ys report e next = by (first.seq == other) e
    where
      by : (b : Bool) → cond b (Some first) (find (λ (r : Report). r.seq == other) xs) ≡ Some report → cond b (Some first) (find (λ (r : Report). r.seq == other) ys) ≡ Some report
      by true e = e
      by false e = next e

  kept_found : (k : ℕ) (reports : List Report) (report : Report) → find (λ (r : Report). r.seq == other) (take k reports) ≡ Some report → find (λ (r : Report). r.seq == other) (take k (without_report dropped reports)) ≡ Some report
  kept_found zero reports report e = absurd (cc)
  kept_found (suc k) [] report e = e
  kept_found (suc k) (first ∷ reports) report e = by (first.seq == dropped) refl (kept_found k reports report)
    where
      by : (b : Bool) → (first.seq == dropped) ≡ b
          → (find (λ (r : Report). r.seq == other) (take k reports) ≡ Some report → find (λ (r : Report). r.seq == other) (take k (without_report dropped reports)) ≡ Some report)
          → find (λ (r : Report). r.seq == other) (take (suc k) (cond (not b) (first ∷ without_report dropped reports) (without_report dropped reports))) ≡ Some report
      by true is next = taken_more other k (without_report dropped reports) report (next (behind first (take k reports) report is e))
      by false is next = along_first first (take k reports) (take k (without_report dropped reports)) report e next

  shown_stays : (reports : List Report) (k : ℕ) (report : Report) → find (λ (r : Report). r.seq == other) (take k reports) ≡ Some report
      → find (λ (r : Report). r.seq == other) (take (shown_without dropped k reports) (without_report dropped reports)) ≡ Some report
  shown_stays [] k report e = e
  shown_stays (first ∷ reports) zero report e = absurd (cc)
  shown_stays (first ∷ reports) (suc k) report e = by (first.seq == dropped) refl (shown_stays reports k report)
    where
      by : (b : Bool) → (first.seq == dropped) ≡ b
          → (find (λ (r : Report). r.seq == other) (take k reports) ≡ Some report → find (λ (r : Report). r.seq == other) (take (shown_without dropped k reports) (without_report dropped reports)) ≡ Some report)
          → find (λ (r : Report). r.seq == other) (take (cond b k (suc (shown_without dropped k reports))) (cond (not b) (first ∷ without_report dropped reports) (without_report dropped reports))) ≡ Some report
      by true is next = kept_found k reports report (behind first (take k reports) report is e)
      by false is next = along_first first (take k reports) (take (shown_without dropped k reports) (without_report dropped reports)) report e next

  settled_shown : (verdict : Verdict) (s : State) (answer : Bool) (s2 : State) (report : Report) → SettlesState dropped verdict s answer s2 → shown_report other s ≡ Some report → shown_report other s2 ≡ Some report
  settled_shown verdicts.Stored s true s2 report h e = ap (λ (x : State). shown_report other x) h.1 ∙ shown_stays s.reports s.shown report e
  settled_shown verdicts.Stored s false s2 report h e = ap (λ (x : State). shown_report other x) h.1 ∙ e
  settled_shown verdicts.Carried s answer s2 report h e = ap (λ (x : State). shown_report other x) h.1 ∙ e
  settled_shown (verdicts.Conflict digest) s answer s2 report h e = ap (λ (x : State). shown_report other x) h.1 ∙ e
  settled_shown (verdicts.Full limit) s answer s2 report h e = ap (λ (x : State). shown_report other x) h.1 ∙ e

-- what a computer shows after one has changed
shown_set : (other : ℕ) (name own : List ℕ) (computers : List (List ℕ × PlayedComputer)) (computer then : PlayedComputer) → named own computers ≡ Some computer
    → ((report : Report) → shown_report other computer.agent ≡ Some report → shown_report other then.agent ≡ Some report) → (report : Report) → shown_of other (named name computers) ≡ Some report
    → shown_of other (named name (set_value (bytes_eq own) computers then)) ≡ Some report
shown_set other name own [] computer then here stays report e = e
shown_set other name own (x ∷ xs) computer then here stays report e = by (bytes_eq own x.0) (bytes_eq name x.0) refl here e (λ is found. shown_set other name own xs computer then is stays report found)
  where
    by : (b c : Bool) → bytes_eq name x.0 ≡ c → cond b (Some x.1) (named own xs) ≡ Some computer → shown_of other (cond c (Some x.1) (named name xs)) ≡ Some report
        → (named own xs ≡ Some computer → shown_of other (named name xs) ≡ Some report → shown_of other (named name (set_value (bytes_eq own) xs then)) ≡ Some report)
        → shown_of other (named name (cond b ((x.0, then) ∷ xs) (x ∷ set_value (bytes_eq own) xs then))) ≡ Some report
    by true true is here e next = ap (λ (c : Bool). shown_of other (cond c (Some then) (named name xs))) is ∙ stays report (subst (λ (c : PlayedComputer). shown_report other c.agent ≡ Some report) (some_is x.1 computer here) e)
    by true false is here e next = ap (λ (c : Bool). shown_of other (cond c (Some then) (named name xs))) is ∙ e
    by false true is here e next = ap (λ (c : Bool). shown_of other (cond c (Some x.1) (named name (set_value (bytes_eq own) xs then)))) is ∙ e
    by false false is here e next = ap (λ (c : Bool). shown_of other (cond c (Some x.1) (named name (set_value (bytes_eq own) xs then)))) is ∙ next here e

-- ---- report
abbrev pub IsFound : List ℕ → Office → ℕ → Type 0
IsFound name o seq = (report : Report) × (shown_at name seq o ≡ Some report)

verdict_is : (report : Report) (o : Option Carrier) (answer : Message) → verdict_of report o ≡ Some answer → (verdict : Verdict) × (verdict_of report o ≡ Some (VerdictToComputer report.computer report.seq verdict))
verdict_is report None answer e = absurd (cc)
verdict_is report (Some carrier) answer e = (up_verdict (relay_of carrier) report, refl)

-- a report that was found takes two messages, and the others stay found
record Goes (name : List ℕ) (seq : ℕ) (old new : Office) : Type 0 where
  two : length new.messages ≡ length old.messages + 2
  stay : (other : ℕ) → (seq == other) ≡ false → IsFound name old other → IsFound name new other

one_goes : (name : List ℕ) (seq : ℕ) (old : Office) (said : List ℕ) (new : Office) (report : Report) → shown_at name seq old ≡ Some report → ReportsOne name seq old said new → Goes name seq old new
one_goes name seq old said new report shown (mid, a, b, (computer, here, p), (far, c, d, q, r, is2), is) =
    let own : shown_report seq computer.agent ≡ Some report = ap (λ (o : Option PlayedComputer). shown_of seq o) (sym here) ∙ shown in
    let m : Message = ReportToRelay computer.relay report in
    let sent = subst (λ (o : Option Report). SendsFound name seq computer.relay o old a mid) own p in
    let first : mid.messages ≡ old.messages ++ m ∷ [] = ap (λ (o : Office). o.messages) sent.1 in
    let one = arrival (next_number old) m mid c far (ap (λ (l : List Message). message_at (next_number old) l) first ∙ at_end (next_number old) old.messages [] m refl) q in
    let verdict = verdict_is report (named computer.relay (carriers_of mid.relays)) one.tells.0.0 one.tells.0.2 in
    let answer : Message = VerdictToComputer report.computer report.seq verdict.0 in
    let second : far.messages ≡ mid.messages ++ answer ∷ [] = one.reaches.messages ∙ ap (λ (o : Option Message). mid.messages ++ option_to_list o) verdict.1 in
    let two = arrival (next_number mid) answer far d new (ap (λ (l : List Message). message_at (next_number mid) l) second ∙ at_end (next_number mid) mid.messages [] answer refl) r in
    let third : new.messages ≡ far.messages = two.reaches.messages ∙ append-nil far.messages in
    let same : far.computers ≡ old.computers = one.tells.1 ∙ ap (λ (o : Office). o.computers) sent.1 in
    record { two = counted mid far m answer first second third; stay = settles far verdict.0 two.words two.tells same }
  where
    counted : (mid far : Office) (m answer : Message) → mid.messages ≡ old.messages ++ m ∷ [] → far.messages ≡ mid.messages ++ answer ∷ [] → new.messages ≡ far.messages → length new.messages ≡ length old.messages + 2
    counted mid far m answer first second third =
        let k : length new.messages ≡ length far.messages = ap (λ (l : List Message). length l) third in
        let l : length far.messages ≡ length mid.messages + 1 = ap (λ (l : List Message). length l) second ∙ length-append mid.messages (answer ∷ []) in
        let n : length mid.messages ≡ length old.messages + 1 = ap (λ (l : List Message). length l) first ∙ length-append old.messages (m ∷ []) in
        omega (arith, k, l, n)

    settles : (far : Office) (verdict : Verdict) (words : List (List ℕ)) → Tells (VerdictToComputer report.computer report.seq verdict) far words new.computers → far.computers ≡ old.computers
        → (other : ℕ) → (seq == other) ≡ false → IsFound name old other → IsFound name new other
    settles far verdict words (there, agent, dropped, at, changes, says, computers) same other apart (found, e) =
        let number : report.seq ≡ seq = found_number seq (shown_reports computer.agent) report (ap (λ (o : Option PlayedComputer). shown_of seq o) (sym here) ∙ shown) in
        let apart2 : (report.seq == other) ≡ false = subst (λ (k : ℕ). (k == other) ≡ false) (sym number) apart in
        let then : PlayedComputer = record there { agent = agent } in
        let set = set_named report.computer (λ (x : PlayedComputer). then) far.computers there at in
        let before : shown_of other (named name far.computers) ≡ Some found = ap (λ (l : List (List ℕ × PlayedComputer)). shown_of other (named name l)) same ∙ e in (
          found,
          ap (λ (l : List (List ℕ × PlayedComputer)). shown_of other (named name l)) (computers ∙ set)
              ∙ shown_set other name report.computer far.computers there then at (λ r x. settled_shown report.seq other apart2 verdict there.agent dropped agent r changes x) found before,
        )

-- the steps of one report, of those that are found
abbrev pub one_report : List ℕ → ℕ → ℕ → Option Report → List Step
one_report name seq number None = []
one_report name seq number (Some report) = Send name seq ∷ Deliver number ∷ Deliver (number + 1) ∷ []

abbrev pub AreOfOne : List ℕ → ℕ → Office → List Step → Type 0
AreOfOne name seq before steps = steps ≡ one_report name seq (next_number before) (shown_at name seq before)

-- each number is another than those behind it
abbrev Apart : List ℕ → Type 0
Apart [] = ⊤
Apart (x ∷ xs) = All (λ (y : ℕ). (x == y) ≡ false) xs × Apart xs

below_apart : (x y : ℕ) → x < y → (x == y) ≡ false
below_apart x y less = by (eqb_tells x y)
  where
    by : ((x == y) ≡ true) × (x ≡ y) ⊎ ((x == y) ≡ false) × (x ≢ y) → (x == y) ≡ false
    by (inl same) = let e : x ≡ y = same.1 in absurd (omega (arith, less, e))
    by (inr apart) = apart.0

pairs_apart : (xs : List ℕ) → AllPairs (λ (x y : ℕ). x < y) xs → Apart xs
pairs_apart [] pairs = tt
pairs_apart (x ∷ xs) pairs =
    ((λ k d within. below_apart x (slice_index_or xs k d) (pairs zero (suc k) d (omega arith) (omega (arith, within)))), pairs_apart xs (λ i j d less within. pairs (suc i) (suc j) d (omega (arith, less)) (omega (arith, within))))

reports_apart : (k : ℕ) (xs : List ℕ) → Apart xs → Apart (take k xs)
reports_apart zero xs h = tt
reports_apart (suc k) [] h = tt
reports_apart (suc k) (x ∷ xs) h = (All-take (λ (y : ℕ). (x == y) ≡ false) k xs h.0, reports_apart k xs h.1)

reports_follow : (name : List ℕ) (seqs : List ℕ) (old : Office) (steps : List Step) → Apart seqs → All (IsFound name old) seqs → AreOfEach (ReportsOne name) (AreOfOne name) seqs old steps → steps ≡ report_steps name (next_number old) seqs
reports_follow name [] old steps apart found h = h
reports_follow name (seq ∷ seqs) old steps apart found (between, said, one, other, does, ones, more, is) =
    let own = All-head (IsFound name old) seq seqs found in
    let goes = one_goes name seq old said between own.0 own.1 does in
    let number : next_number between ≡ next_number old + 2 = counted goes.two in
    let stays : All (IsFound name between) seqs =
    λ k d within. goes.stay (slice_index_or seqs k d) (apart.0 k d within) (All-tail (IsFound name old) seq seqs found k d within) in
    let rest = reports_follow name seqs between other apart.1 stays more in
    let three : one ≡ Send name seq ∷ Deliver (next_number old) ∷ Deliver (next_number old + 1) ∷ [] = ones ∙ ap (λ (o : Option Report). one_report name seq (next_number old) o) own.1 in
    is ∙ ap (λ (l : List Step). l ++ other) three
    ∙ ap (λ (l : List Step). Send name seq ∷ Deliver (next_number old) ∷ Deliver (next_number old + 1) ∷ l) (rest ∙ ap (λ (k : ℕ). report_steps name k seqs) number)
  where
    counted : length between.messages ≡ length old.messages + 2 → next_number between ≡ next_number old + 2
    counted two = omega (arith, two)

-- the reports of a sound agent that are shown are found, each once
pub reports_numbered : (name : List ℕ) (old : Office) (computer : PlayedComputer) (steps : List Step) → named name old.computers ≡ Some computer → IsSound computer.agent
    → AreOfEach (ReportsOne name) (AreOfOne name) (shown_numbers computer.agent) old steps → steps ≡ report_steps name (next_number old) (shown_numbers computer.agent)
reports_numbered name old computer steps here sound h =
    let numbers = map (λ (r : Report). r.seq) computer.agent.reports in
    let apart : Apart (shown_numbers computer.agent) =
    subst Apart (take-map (λ (r : Report). r.seq) computer.agent.shown computer.agent.reports)
    (reports_apart computer.agent.shown numbers (pairs_apart numbers (AllPairs-from_increasing numbers sound.saved.reports.ascending))) in
    let found : All (IsFound name old) (shown_numbers computer.agent) =
    All-weaker (Finds (shown_reports computer.agent)) (IsFound name old) at (shown_numbers computer.agent) (finds_each (shown_reports computer.agent)) in
    reports_follow name (shown_numbers computer.agent) old steps apart found h
  where
    at : (seq : ℕ) → Finds (shown_reports computer.agent) seq → IsFound name old seq
    at seq (report, e) = (report, ap (λ (o : Option PlayedComputer). shown_of seq o) here ∙ e)
