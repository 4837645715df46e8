-- What the server has accepted, after what is asked and after a report.
use Rattle.std.specs.Prelude.{◌≡◌, ◌≢◌, ◌⊎◌, ◌≤◌, ℕ, true, false, cond, List, [], ◌∷◌, All, Contains, filter_map, is_none, length, Some, None, Ok, ⊤}
use Rattle.std.specs.declared.option.Option.{Option}
use Rattle.std.specs.List.{AllByRecursion, IsDistinct, cons_option}
use Rattle.std.proofs.Common.{inl, inr, refl, sym, ap, ◌∙◌, subst, true≢false}
use Rattle.report_text.specs.declared.report.Report.{Report}
use Rattle.report_text.specs.Reports.{IsReport, report_text}
use Rattle.relay_core.specs.ReportKeys.{ReportKey, key_of, report_digest, same_key}
use Rattle.desk_keep.specs.declared.change.Change.{Change}
use Rattle.server_text.specs.declared.reply.Reply.{Reply}
use Rattle.server_text.specs.declared.reply.Reply.TheVariants as told
use Rattle.server_text.specs.declared.request.Request.{Request}
use Rattle.server_text.specs.declared.request.Request.TheVariants as requests
use Rattle.server_text.specs.Entries.{Asked, Bad, Enters, Entry, FileBytes, Filed, Issued, Published, Reported, Results, SiteText, Stopped, Versions}
use Rattle.server_text.specs.RequestTexts.{Asks}
use Rattle.server_core.specs.declared.limits.Limits.{Limits}
use Rattle.server_core.specs.AcceptedTables.{report_at, view}
use Rattle.server_core.specs.CallAnswers.{AreAccepted, after, is_accepted}
use Rattle.server_core.specs.Replies.{reply, reply_to_report}
use Rattle.server_core.specs.TableViews.{IsHeld, IsReportOf, ShowsReport}
use Rattle.delivery.specs.Arrivals.{held_by}
use Rattle.delivery.specs.Schedules.{IsNoReport}
use Rattle.delivery.specs.Holdings.{report_key}
use Rattle.delivery.proofs.Lists.{cons_head, cons_tail, in_cons, keys_apart, none_some, some_is}
use Rattle.delivery.proofs.Mails.{made_good}
use Rattle.delivery.proofs.Rights.{AreMade, AreRightEntries, History, IsMade}

-- ---- keys

-- of an accepted report, the key of another is another
apart_keys : (key : ReportKey) (accepted : List Entry) → ((other : Report) → Contains accepted (Reported other) → key ≢ key_of other)
    → AllByRecursion (λ own. same_key key own ≡ false) (filter_map report_key accepted)
apart_keys key [] apart = tt
apart_keys key (Published site ∷ accepted) apart = apart_keys key accepted (λ other there. apart other (cons_tail _ accepted _ there))
apart_keys key (Issued action ∷ accepted) apart = apart_keys key accepted (λ other there. apart other (cons_tail _ accepted _ there))
apart_keys key (Stopped id ∷ accepted) apart = apart_keys key accepted (λ other there. apart other (cons_tail _ accepted _ there))
apart_keys key (Filed bytes ∷ accepted) apart = apart_keys key accepted (λ other there. apart other (cons_tail _ accepted _ there))
apart_keys key (Reported report ∷ accepted) apart = (
  keys_apart key (key_of report) (apart report (cons_head (Reported report) accepted)),
  apart_keys key accepted (λ other there. apart other (cons_tail (Reported report) accepted (Reported other) there)),
)

once_more : (key : ReportKey) (accepted : List Entry) → ((other : Report) → Contains accepted (Reported other) → key ≢ key_of other)
    → IsDistinct same_key (filter_map report_key accepted) → IsDistinct same_key (key ∷ filter_map report_key accepted)
unfolding IsDistinct
once_more key accepted apart once = (apart_keys key accepted apart, once)

-- where a report is accepted, none of its computer and number was
fresh : (accepted : List Entry) (limits : Limits) (rows : List Change) (report : Report) (found : Option Change)
    → ShowsReport accepted report.computer report.seq found → is_none (reply_to_report limits rows report found) ≡ true
    → (other : Report) → IsReportOf accepted report.computer other → other.seq ≡ report.seq → ⊥
fresh accepted limits rows report None shown free = shown
fresh accepted limits rows report (Some row) shown free =
    let Free : Change → Type 0 = λ r. is_none (reply_to_report limits rows report (Some r)) ≡ true in
    absurd (true≢false (sym (subst Free shown.4 free)))

-- ---- what is asked and is no report

module _ (made : History) (limits : Limits) (accepted : List Entry) (right : AreRightEntries made accepted) where
  entered : (entry : Entry) (request : Request) → report_key entry ≡ None → Asks request (Enters entry)
      → AreRightEntries made (after accepted limits (Enters entry))
  entered entry request none asks =
      elim (is_accepted accepted limits entry) as (λ b. is_accepted accepted limits entry ≡ b → AreRightEntries made (cond b (entry ∷ accepted) accepted)) [
        | true ↦ λ e. record {
          are = ((request, asks), (limits, e), right.are);
          each = λ report there. elim (in_cons entry accepted (Reported report) there) as (λ _. IsMade made report) [
            | inl same ↦ absurd (none_some (key_of report) (sym none ∙ ap report_key same))
            | inr rest ↦ right.each report rest
          ];
          once = subst (λ (o : Option ReportKey). IsDistinct same_key (cons_option o (filter_map report_key accepted))) (sym none) right.once;
        }
        | false ↦ λ e. right
      ] refl

  pub asked_right : (request : Request) (asked : Asked) → IsNoReport asked → Asks request asked → AreRightEntries made (after accepted limits asked)
  asked_right request (Enters (Published site)) plain asks = entered (Published site) request refl asks
  asked_right request (Enters (Issued action)) plain asks = entered (Issued action) request refl asks
  asked_right request (Enters (Stopped id)) plain asks = entered (Stopped id) request refl asks
  asked_right request (Enters (Filed bytes)) plain asks = entered (Filed bytes) request refl asks
  asked_right request (Enters (Reported report)) plain asks = absurd plain
  asked_right request Versions plain asks = right
  asked_right request (SiteText name version) plain asks = right
  asked_right request (FileBytes digest) plain asks = right
  asked_right request (Results computer) plain asks = right
  asked_right request (Bad line) plain asks = right

-- ---- a report

key_same : (report other : Report) → other.computer ≡ report.computer → other.seq ≡ report.seq → key_of other ≡ key_of report
key_same report other computer seq = λ i. record { computer = computer i; seq = seq i }

same_entry : (report other : Report) → Reported report ≡ Reported other → report ≡ other
same_entry report other e = cc

module _ (made : History) (accepted : List Entry) (are : AreMade made) (right : AreRightEntries made accepted) (report : Report)
    (is_made : IsMade made report) where
  -- what is held of its computer and number is this report
  pub held_is : (digest : List ℕ) → IsHeld accepted report.computer report.seq digest → digest ≡ report_digest report
  held_is digest held =
      sym held.3 ∙ ap report_digest (are.one held.0 report (right.each held.0 held.1.0) is_made (key_same report held.0 held.1.1 held.2))

  module _ (limits : Limits) (short : (other : Report) → IsReport other → length (report_text other) ≤ 65536)
      (kept : (computer : List ℕ) (seq : ℕ) → AreAccepted accepted → ShowsReport accepted computer seq (report_at computer seq (view accepted))) where
    report_asks : Asks (requests.Report (report_text report)) (Enters (Reported report))
    report_asks =
        let good = made_good made report are is_made in
        (Ok report, (short report good, good, refl), refl)

    none_yet : is_accepted accepted limits (Reported report) ≡ true → (other : Report) → Contains accepted (Reported other) → key_of report ≢ key_of other
    none_yet free other there = λ same.
        fresh accepted limits (view accepted) report (report_at report.computer report.seq (view accepted)) (kept report.computer report.seq right.are) free
        other (there, sym (ap (λ k. k.computer) same)) (sym (ap (λ k. k.seq) same))

    pub report_right : AreRightEntries made (after accepted limits (Enters (Reported report)))
    report_right =
        elim (is_accepted accepted limits (Reported report)) as (λ b. is_accepted accepted limits (Reported report) ≡ b
        → AreRightEntries made (cond b (Reported report ∷ accepted) accepted)) [
          | true ↦ λ e. record {
            are = ((requests.Report (report_text report), report_asks), (limits, e), right.are);
            each = λ other there. elim (in_cons (Reported report) accepted (Reported other) there) as (λ _. IsMade made other) [
              | inl same ↦ subst (IsMade made) (same_entry report other same) is_made
              | inr rest ↦ right.each other rest
            ];
            once = once_more (key_of report) accepted (none_yet e) right.once;
          }
          | false ↦ λ e. right
        ] refl

-- ---- the reply to a report

-- the server took it, now or before, or it named another
abbrev Says : List ℕ → Reply → List ℕ → Type 0
Says digest answered kept = (((answered ≡ told.Ok) ⊎ (answered ≡ told.Again)) × (digest ≡ kept)) ⊎ (answered ≡ told.Conflict kept)

says : (digest : List ℕ) (answered : Reply) (kept : List ℕ) → held_by digest answered ≡ Some kept → Says digest answered kept
says digest told.Ok kept h = inl (inl refl, some_is digest kept h)
says digest told.Again kept h = inl (inr refl, some_is digest kept h)
says digest (told.Digest file) kept h = absurd (none_some kept h)
says digest (told.Sites sites) kept h = absurd (none_some kept h)
says digest (told.Site text) kept h = absurd (none_some kept h)
says digest told.Same kept h = absurd (none_some kept h)
says digest (told.Content bytes) kept h = absurd (none_some kept h)
says digest (told.Rows rows) kept h = absurd (none_some kept h)
says digest (told.BadText line) kept h = absurd (none_some kept h)
says digest (told.Conflict other) kept h = inr (ap told.Conflict (some_is other kept h))
says digest told.NoSuch kept h = absurd (none_some kept h)
says digest (told.Older version) kept h = absurd (none_some kept h)
says digest (told.Full limit) kept h = absurd (none_some kept h)
says digest told.KeeperFault kept h = absurd (none_some kept h)
says digest told.Memory kept h = absurd (none_some kept h)

-- what the law on replies says of a report
abbrev pub SaysHeld : Limits → List Entry → Report → Type 0
SaysHeld limits accepted report =
    AreAccepted accepted → (reply accepted limits (Enters (Reported report)) ≡ told.Ok) ⊎ (reply accepted limits (Enters (Reported report)) ≡ told.Again)
    → IsHeld (after accepted limits (Enters (Reported report))) report.computer report.seq (report_digest report)

abbrev pub SaysAnother : Limits → List Entry → Report → Type 0
SaysAnother limits accepted report =
    (digest : List ℕ) → AreAccepted accepted → reply accepted limits (Enters (Reported report)) ≡ told.Conflict digest
    → IsHeld accepted report.computer report.seq digest × (digest ≢ report_digest report)

module _ (made : History) (limits : Limits) (accepted : List Entry) (are : AreMade made) (right : AreRightEntries made accepted) (report : Report)
    (is_made : IsMade made report) (says_held : SaysHeld limits accepted report) (says_another : SaysAnother limits accepted report) where
  pub no_conflict : (kept : List ℕ) → reply accepted limits (Enters (Reported report)) ≢ told.Conflict kept
  no_conflict kept = λ is.
      let another = says_another kept right.are is in
      another.1 (held_is made accepted are right report is_made kept another.0)

  pub reply_holds : (kept : List ℕ) → held_by (report_digest report) (reply accepted limits (Enters (Reported report))) ≡ Some kept
      → IsHeld (after accepted limits (Enters (Reported report))) report.computer report.seq kept
  reply_holds kept h =
      let later = after accepted limits (Enters (Reported report)) in
      elim (says (report_digest report) (reply accepted limits (Enters (Reported report))) kept h) as (λ _. IsHeld later report.computer report.seq kept) [
        | inl took ↦ subst (λ (d : List ℕ). IsHeld later report.computer report.seq d) took.1 (says_held right.are took.0)
        | inr named ↦ absurd (no_conflict kept named)
      ]
