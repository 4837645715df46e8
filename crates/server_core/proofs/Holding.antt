-- What is accepted after a reply, and what a reply says of a report.
use Rattle.std.proofs.Common.{◌≡◌, ◌≢◌, ℕ, ◌⊎◌, inl, inr, List, [], ◌∷◌, Bool, true, false, cond, Some, None, is_none, refl, sym, ◌∙◌, subst}
use Rattle.std.specs.Prelude.{bytes_eq, unwrap_or}
use Rattle.std.specs.declared.option.Option.{Option}
use Rattle.std.proofs.lemmas.Slice.Eq.{bytes_eq-Decides}
use Rattle.sha2.specs.Sha256.{sha256}
use Rattle.report_text.specs.declared.report.Report.{Report}
use Rattle.report_text.specs.Reports.{report_text}
use Rattle.desk_keep.specs.declared.change.Change.{Change}
use Rattle.desk_keep.specs.declared.change.Change.TheVariants as change
use Rattle.server_core.specs.declared.limits.Limits.{Limits}
use Rattle.server_text.specs.declared.request.Request.{Request}
use Rattle.server_text.specs.declared.reply.Reply.{Reply}
use Rattle.server_text.specs.declared.reply.Reply.TheVariants.{Ok, Again, Digest, Sites, Site, Same, Content, Rows, BadText, Conflict, NoSuch, Older, Full, KeeperFault, Memory}
use Rattle.server_text.specs.Entries.{Asked, Enters, Entry, Reported, Versions, SiteText, FileBytes, Results, Bad}
use Rattle.server_text.specs.RequestTexts.{Asks}
use Rattle.server_core.specs.CallAnswers.{Answers, AnswersAll, AreAccepted, after, is_accepted}
use Rattle.server_core.specs.Replies.{first_of, full_if, full_of_reports, known_report, reply, reply_to_report}
use Rattle.server_core.specs.AcceptedTables.{report_at, view}
use Rattle.server_core.specs.TableViews.{IsHeld, ShowsReport}
use Rattle.server_core.proofs.KeptReports.{reports_shown}
use Rattle.server_core.proofs.RowsAfter.{cons_head}

-- ---- what is accepted
enters_accepted : (limits : Limits) (accepted : List Entry) (request : Request) (entry : Entry) → AreAccepted accepted → Asks request (Enters entry)
    → AreAccepted (after accepted limits (Enters entry))
enters_accepted limits accepted request entry are asks =
    elim (is_accepted accepted limits entry) as (λ b. is_accepted accepted limits entry ≡ b → AreAccepted (cond b (entry ∷ accepted) accepted)) [
      | true ↦ λ e. ((request, asks), (limits, e), are)
      | false ↦ λ e. are
    ] refl

after_accepted : (limits : Limits) (accepted : List Entry) (request : Request) (asked : Asked) → AreAccepted accepted → Asks request asked
    → AreAccepted (after accepted limits asked)
after_accepted limits accepted request (Enters entry) are asks = enters_accepted limits accepted request entry are asks
after_accepted limits accepted request Versions are asks = are
after_accepted limits accepted request (SiteText name version) are asks = are
after_accepted limits accepted request (FileBytes digest) are asks = are
after_accepted limits accepted request (Results computer) are asks = are
after_accepted limits accepted request (Bad line) are asks = are

-- a reply to what was asked
asked_accepted : (limits : Limits) (accepted later : List Entry) (request : Request) (answered : Reply) → AreAccepted accepted
    → (asked : Asked) × Asks request asked × (answered ≡ reply accepted limits asked) × (later ≡ after accepted limits asked) → AreAccepted later
asked_accepted limits accepted later request answered are (asked, asks, is, then) =
    subst AreAccepted (sym then) (after_accepted limits accepted request asked are asks)

pub answer_accepted : (limits : Limits) (accepted later : List Entry) (request : Request) (answered : Reply) → AreAccepted accepted
    → Answers limits accepted request answered later → AreAccepted later
answer_accepted limits accepted later request Ok are h = asked_accepted limits accepted later request Ok are h
answer_accepted limits accepted later request Again are h = asked_accepted limits accepted later request Again are h
answer_accepted limits accepted later request (Digest digest) are h = asked_accepted limits accepted later request (Digest digest) are h
answer_accepted limits accepted later request (Sites sites) are h = asked_accepted limits accepted later request (Sites sites) are h
answer_accepted limits accepted later request (Site text) are h = asked_accepted limits accepted later request (Site text) are h
answer_accepted limits accepted later request Same are h = asked_accepted limits accepted later request Same are h
answer_accepted limits accepted later request (Content bytes) are h = asked_accepted limits accepted later request (Content bytes) are h
answer_accepted limits accepted later request (Rows rows) are h = asked_accepted limits accepted later request (Rows rows) are h
answer_accepted limits accepted later request (BadText line) are h = asked_accepted limits accepted later request (BadText line) are h
answer_accepted limits accepted later request (Conflict digest) are h = asked_accepted limits accepted later request (Conflict digest) are h
answer_accepted limits accepted later request NoSuch are h = asked_accepted limits accepted later request NoSuch are h
answer_accepted limits accepted later request (Older version) are h = asked_accepted limits accepted later request (Older version) are h
answer_accepted limits accepted later request (Full limit) are h = asked_accepted limits accepted later request (Full limit) are h
answer_accepted limits accepted later request KeeperFault are h = subst AreAccepted (sym h) are
answer_accepted limits accepted later request Memory are h = subst AreAccepted (sym h) are

pub answers_accepted : (limits : Limits) (accepted last : List Entry) (requests : List Request) (replies : List Reply) → AreAccepted accepted
    → AnswersAll limits accepted requests replies last → AreAccepted last
answers_accepted limits accepted last [] [] are h = subst AreAccepted (sym h) are
answers_accepted limits accepted last [] (answered ∷ replies) are h = absurd h
answers_accepted limits accepted last (request ∷ requests) [] are h = absurd h
answers_accepted limits accepted last (request ∷ requests) (answered ∷ replies) are (later, one, rest) =
    answers_accepted limits later last requests replies (answer_accepted limits accepted later request answered are one) rest

-- ---- what a reply says of a report
not_ok : (limit : ℕ) → Full limit ≡ Ok → ⊥
not_ok limit e = cc

not_again : (limit : ℕ) → Full limit ≡ Again → ⊥
not_again limit e = cc

not_conflict : (limit : ℕ) (digest : List ℕ) → Full limit ≡ Conflict digest → ⊥
not_conflict limit digest e = cc

-- at a limit the reply is Full of it, or there is none
abbrev FullOrNone : Option Reply → Type 0
FullOrNone found = (found ≡ None) ⊎ ((limit : ℕ) × (found ≡ Some (Full limit)))

limits_met : (one two : Bool) (m n : ℕ) → FullOrNone (first_of (full_if one m ∷ full_if two n ∷ []))
limits_met true two m n = inr (m, refl)
limits_met false true m n = inr (n, refl)
limits_met false false m n = inl refl

full_or_none : (limits : Limits) (rows : List Change) (report : Report) → FullOrNone (full_of_reports limits rows report)
full_or_none limits rows report = limits_met _ _ limits.computers limits.reports

-- the report that is kept of this computer and number, where one is
abbrev HeldAs : List Entry → Report → Option Change → Type 0
HeldAs accepted report found = ShowsReport accepted report.computer report.seq found

-- the two replies that tell that it is held
abbrev IsTaken : Reply → Type 0
IsTaken answered = (answered ≡ Ok) ⊎ (answered ≡ Again)

full_not_taken : (limit : ℕ) → ¬ IsTaken (Full limit)
full_not_taken limit (inl e) = not_ok limit e
full_not_taken limit (inr e) = not_again limit e

known_taken : (kept digest : List ℕ) → IsTaken (known_report kept digest) → kept ≡ digest
known_taken kept digest taken =
    elim (bytes_eq kept digest) as (λ b. bytes_eq kept digest ≡ b → IsTaken (cond b Again (Conflict kept)) → kept ≡ digest) [
      | true ↦ λ e t. (bytes_eq-Decides kept digest).0 e
      | false ↦ λ e t. absurd (elim t as (λ _. ⊥) [ inl ok ↦ cc | inr again ↦ cc ])
    ] refl taken

known_conflict : (kept digest told : List ℕ) → known_report kept digest ≡ Conflict told → (kept ≡ told) × (told ≢ digest)
known_conflict kept digest told is =
    elim (bytes_eq kept digest) as (λ b. bytes_eq kept digest ≡ b → cond b Again (Conflict kept) ≡ Conflict told → (kept ≡ told) × (told ≢ digest)) [
      | true ↦ λ e t. absurd (cc)
      | false ↦ λ e t.
          let same : kept ≡ told = cc in
          (same, λ other. let so : bytes_eq kept digest ≡ true = (bytes_eq-Decides kept digest).1 (same ∙ other) in absurd (cc))
    ] refl is

-- a report of which none is kept of its computer and number
new_held : (accepted : List Entry) (report : Report) (found : Option Reply) → FullOrNone found → IsTaken (unwrap_or found Ok)
    → IsHeld (cond (is_none found) (Reported report ∷ accepted) accepted) report.computer report.seq (sha256 (report_text report))
new_held accepted report None full taken = (report, (cons_head (Reported report) accepted, refl), refl, refl)
new_held accepted report (Some answered) (inl none) taken = absurd (cc)
new_held accepted report (Some answered) (inr (limit, is)) taken =
    let same : answered ≡ Full limit = cc in
    absurd (full_not_taken limit (subst IsTaken same taken))

held_of : (accepted : List Entry) (limits : Limits) (rows : List Change) (report : Report) (found : Option Change) → HeldAs accepted report found
    → IsTaken (unwrap_or (reply_to_report limits rows report found) Ok)
    → IsHeld (cond (is_none (reply_to_report limits rows report found)) (Reported report ∷ accepted) accepted) report.computer report.seq
    (sha256 (report_text report))
held_of accepted limits rows report None shown taken = new_held accepted report (full_of_reports limits rows report) (full_or_none limits rows report) taken
held_of accepted limits rows report (Some row) shown taken =
    let kept = sha256 (report_text shown.0) in
    let digest = sha256 (report_text report) in
    let Taken : Change → Type 0 = λ r. IsTaken (unwrap_or (reply_to_report limits rows report (Some r)) Ok) in
    let same : kept ≡ digest = known_taken kept digest (subst Taken shown.4 taken) in
    let Held : Change → Type 0 = λ r.
    IsHeld (cond (is_none (reply_to_report limits rows report (Some r))) (Reported report ∷ accepted) accepted) report.computer report.seq digest in
    subst Held (sym shown.4) (shown.0, shown.1, shown.2, same)

pub says_held : (accepted : List Entry) (limits : Limits) (report : Report) → AreAccepted accepted
    → (reply accepted limits (Enters (Reported report)) ≡ Ok) ⊎ (reply accepted limits (Enters (Reported report)) ≡ Again)
    → IsHeld (after accepted limits (Enters (Reported report))) report.computer report.seq (sha256 (report_text report))
says_held accepted limits report are taken =
    held_of accepted limits (view accepted) report (report_at report.computer report.seq (view accepted))
    (reports_shown accepted report.computer report.seq are) taken

-- of a report of which none is kept no other one is told
new_conflict : (found : Option Reply) (told : List ℕ) → FullOrNone found → unwrap_or found Ok ≡ Conflict told → ⊥
new_conflict None told full is = cc
new_conflict (Some answered) told (inl none) is = absurd (cc)
new_conflict (Some answered) told (inr (limit, full)) is =
    let same : answered ≡ Full limit = cc in
    not_conflict limit told (sym same ∙ is)

another_of : (accepted : List Entry) (limits : Limits) (rows : List Change) (report : Report) (found : Option Change) (told : List ℕ)
    → HeldAs accepted report found → unwrap_or (reply_to_report limits rows report found) Ok ≡ Conflict told
    → IsHeld accepted report.computer report.seq told × (told ≢ sha256 (report_text report))
another_of accepted limits rows report None told shown is = absurd (new_conflict (full_of_reports limits rows report) told (full_or_none limits rows report) is)
another_of accepted limits rows report (Some row) told shown is =
    let kept = sha256 (report_text shown.0) in
    let digest = sha256 (report_text report) in
    let Says : Change → Type 0 = λ r. unwrap_or (reply_to_report limits rows report (Some r)) Ok ≡ Conflict told in
    let other = known_conflict kept digest told (subst Says shown.4 is) in
    ((shown.0, shown.1, shown.2, other.0), other.1)

pub says_another : (accepted : List Entry) (limits : Limits) (report : Report) (told : List ℕ) → AreAccepted accepted
    → reply accepted limits (Enters (Reported report)) ≡ Conflict told
    → IsHeld accepted report.computer report.seq told × (told ≢ sha256 (report_text report))
says_another accepted limits report told are is =
    another_of accepted limits (view accepted) report (report_at report.computer report.seq (view accepted)) told
    (reports_shown accepted report.computer report.seq are) is
