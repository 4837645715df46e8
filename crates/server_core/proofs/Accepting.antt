-- What accepted requests are, and that the tables stay rows in order and form.
use Rattle.std.proofs.Common.{◌≡◌, ◌≢◌, ℕ, ◌+◌, ◌^◌, ◌<◌, ◌≤◌, nat_le, List, [], ◌∷◌, ◌++◌, Bool, true, false, cond, Some, None, is_none, IfSome, codes, refl, sym, ap, ◌∙◌, subst, arith, filter, map}
use Rattle.std.specs.Prelude.{All, Ok, Err}
use Rattle.std.specs.declared.option.Option.{Option}
use Rattle.std.specs.declared.result.Result.{Result}
use Rattle.std.proofs.lemmas.Bool.Decides.{nat_tests}
use Rattle.std.proofs.lemmas.List.Elements.{All-from_recursion, All-nil, All-cons, All-append, All-filter, All-map, All-weaker}
use Rattle.line_forms.specs.Names.{IsName, is_name_byte}
use Rattle.fix_site.specs.declared.site.Site.{Site}
use Rattle.fix_site.specs.declared.action.Action.{Action}
use Rattle.fix_site.specs.Actions.{IsAction, action_text}
use Rattle.fix_site.specs.Answers.{IsShort}
use Rattle.fix_site.specs.Sites.{IsSite, site_text}
use Rattle.report_text.specs.declared.report.Report.{Report}
use Rattle.report_text.specs.declared.report_row.ReportRow.{ReportRow}
use Rattle.report_text.specs.ReportRows.{IsReportRow}
use Rattle.report_text.specs.Reports.{IsReport, report_text}
use Rattle.sha2.specs.Sha256.{sha256}
use Rattle.desk_keep.specs.declared.change.Change.{Change}
use Rattle.desk_keep.specs.declared.change.Change.TheVariants as change
use Rattle.desk_keep.specs.declared.find.Find.TheVariants as find
use Rattle.desk_keep.specs.Forms.{Fits}
use Rattle.desk_keep.specs.Keys.{asked_key}
use Rattle.desk_keep.specs.Tables.{AreRows}
use Rattle.desk_keep.proofs.Following.{AreRows-nil}
use Rattle.desk_keep.proofs.Putting.{AreRows-put_all, fits_found}
use Rattle.server_core.specs.declared.limits.Limits.{Limits}
use Rattle.server_text.specs.declared.reply.Reply.{Reply}
use Rattle.server_text.specs.declared.reply.Reply.TheVariants.{Full}
use Rattle.server_text.specs.declared.request.Request.{Request}
use Rattle.server_text.specs.declared.request.Request.TheVariants as request
use Rattle.server_text.specs.ActionStates.{is_stopped}
use Rattle.server_core.specs.CallAnswers.{AreAccepted}
use Rattle.server_text.specs.Entries.{Asked, Bad, Enters, Entry, FileBytes, Filed, Issued, Published, Reported, Results, SiteText, Stopped, Versions}
use Rattle.server_text.specs.RequestTexts.{Asks, ReadsIssued, ReadsPublished, ReadsReported, asked_of}
use Rattle.server_core.specs.Replies.{first_of, full_of_actions, full_version, reply_to, reply_to_action, reply_to_stop}
use Rattle.server_core.specs.AcceptedTables.{action_at, actions_version, has_later, next_version_row, puts, result_of, stopped_row, view}

-- what a request can ask to be accepted
abbrev pub IsEntry : Entry → Type 0
IsEntry (Published site) = IsSite site × (site.name ≢ codes "actionsite") × IsShort (site_text site)
IsEntry (Issued action) = IsAction action × (action.stopped ≡ false)
IsEntry (Stopped id) = Unit {0}
IsEntry (Filed bytes) = Unit {0}
IsEntry (Reported report) = IsReport report

abbrev entry_in : Asked → Entry → Entry
entry_in (Enters entry) d = entry
entry_in other d = d

entered : (entry e : Entry) → Enters entry ≡ Enters e → IsEntry e → IsEntry entry
entered entry e same is = subst IsEntry (sym (ap (λ a. entry_in a e) same)) is

not_bad : (entry : Entry) (line : ℕ) → Enters entry ≡ Bad line → ⊥
not_bad entry line e = cc

not_versions : (entry : Entry) → Enters entry ≡ Versions → ⊥
not_versions entry e = cc

not_site : (entry : Entry) (name : List ℕ) (version : ℕ) → Enters entry ≡ SiteText name version → ⊥
not_site entry name version e = cc

not_file : (entry : Entry) (digest : List ℕ) → Enters entry ≡ FileBytes digest → ⊥
not_file entry digest e = cc

not_results : (entry : Entry) (computer : List ℕ) → Enters entry ≡ Results computer → ⊥
not_results entry computer e = cc

published_entry : (text : List ℕ) (entry : Entry) (read : Result Site ℕ) → ReadsPublished text read → Enters entry ≡ asked_of Published read → IsEntry entry
published_entry text entry (Ok site) reads same = entered entry (Published site) same (reads.0.1, reads.1, subst IsShort reads.0.2 reads.0.0)
published_entry text entry (Err line) reads same = absurd (not_bad entry line same)

issued_entry : (text : List ℕ) (entry : Entry) (read : Result Action ℕ) → ReadsIssued text read → Enters entry ≡ asked_of Issued read → IsEntry entry
issued_entry text entry (Ok action) reads same = entered entry (Issued action) same (reads.0.1, reads.2)
issued_entry text entry (Err line) reads same = absurd (not_bad entry line same)

reported_entry : (text : List ℕ) (entry : Entry) (read : Result Report ℕ) → ReadsReported text read → Enters entry ≡ asked_of Reported read → IsEntry entry
reported_entry text entry (Ok report) reads same = entered entry (Reported report) same reads.1
reported_entry text entry (Err line) reads same = absurd (not_bad entry line same)

pub entry_of : (request : Request) (entry : Entry) → Asks request (Enters entry) → IsEntry entry
entry_of (request.Publish text) entry asks = published_entry text entry asks.0 asks.1 asks.2
entry_of (request.Act text) entry asks = issued_entry text entry asks.0 asks.1 asks.2
entry_of (request.Stop id) entry asks = entered entry (Stopped id) asks tt
entry_of (request.File bytes) entry asks = entered entry (Filed bytes) asks tt
entry_of request.AskSites entry asks = absurd (not_versions entry asks)
entry_of (request.AskSite name version) entry asks = absurd (not_site entry name version asks)
entry_of (request.AskFile digest) entry asks = absurd (not_file entry digest asks)
entry_of (request.Report text) entry asks = reported_entry text entry asks.0 asks.1 asks.2
entry_of (request.Results computer) entry asks = absurd (not_results entry computer asks)

-- ---- where an act or a stop is accepted, `actionsite` has a next version

pub not_so : false ≡ true → ⊥
not_so e = cc

pub version_free : (rows : List Change) → is_none (full_version rows) ≡ true → actions_version rows < 2 ^ 53
version_free rows =
    elim (nat_le (2 ^ 53) (actions_version rows)) as (λ b. nat_le (2 ^ 53) (actions_version rows) ≡ b → is_none (cond b (Some (Full (2 ^ 53))) None) ≡ true → actions_version rows < 2 ^ 53) [
      | true ↦ λ e h. absurd (not_so h)
      | false ↦ λ e h. grind (arith, nat_tests)
    ] refl

pub first_one : (reply : Option Reply) → is_none (first_of (reply ∷ [])) ≡ true → is_none reply ≡ true
first_one None h = refl
first_one (Some reply) h = h

pub first_two : (reply other : Option Reply) → is_none (first_of (reply ∷ other ∷ [])) ≡ true → (is_none reply ≡ true) × (is_none other ≡ true)
first_two None other h = (refl, first_one other h)
first_two (Some reply) other h = absurd (not_so h)

pub act_free : (limits : Limits) (rows : List Change) (action : Action) (found : Option Change) → is_none (reply_to_action limits rows action found) ≡ true → actions_version rows < 2 ^ 53
act_free limits rows action None h = version_free rows (first_two (full_of_actions limits rows (action_text action)) (full_version rows) h).1
act_free limits rows action (Some (change.Action id text digest)) h = absurd (not_so h)
act_free limits rows action (Some (change.Site name version text)) h = version_free rows (first_two (full_of_actions limits rows (action_text action)) (full_version rows) h).1
act_free limits rows action (Some (change.File digest bytes)) h = version_free rows (first_two (full_of_actions limits rows (action_text action)) (full_version rows) h).1
act_free limits rows action (Some (change.Computer name)) h = version_free rows (first_two (full_of_actions limits rows (action_text action)) (full_version rows) h).1
act_free limits rows action (Some (change.Report computer seq digest)) h = version_free rows (first_two (full_of_actions limits rows (action_text action)) (full_version rows) h).1
act_free limits rows action (Some (change.Result result)) h = version_free rows (first_two (full_of_actions limits rows (action_text action)) (full_version rows) h).1

unstopped_free : (rows : List Change) (stopped : Bool) (reply : Reply) → is_none (cond stopped (Some reply) (full_version rows)) ≡ true → actions_version rows < 2 ^ 53
unstopped_free rows true reply h = absurd (not_so h)
unstopped_free rows false reply h = version_free rows h

pub stop_free : (rows : List Change) (found : Option Change) → is_none (reply_to_stop rows found) ≡ true → actions_version rows < 2 ^ 53
stop_free rows None h = absurd (not_so h)
stop_free rows (Some (change.Action id text digest)) h = unstopped_free rows (is_stopped text) _ h
stop_free rows (Some (change.Site name version text)) h = absurd (not_so h)
stop_free rows (Some (change.File digest bytes)) h = absurd (not_so h)
stop_free rows (Some (change.Computer name)) h = absurd (not_so h)
stop_free rows (Some (change.Report computer seq digest)) h = absurd (not_so h)
stop_free rows (Some (change.Result result)) h = absurd (not_so h)

-- ---- what is put fits

pub actionsite_name : IsName (codes "actionsite")
actionsite_name =
    let P : ℕ → Type 0 = λ byte. is_name_byte byte ≡ true in (
      omega arith,
      omega arith,
      All-from_recursion P (codes "actionsite") (refl, (refl, (refl, (refl, (refl, (refl, (refl, (refl, (refl, (refl, tt)))))))))),
    )

pub version_fits : (rows : List Change) → actions_version rows < 2 ^ 53 → Fits (next_version_row rows)
version_fits rows h = (actionsite_name, (omega arith, omega arith))

stopped_fits : (found : Option Change) → IfSome found Fits → All Fits (stopped_row found)
stopped_fits None h = All-nil Fits
stopped_fits (Some (change.Action id text digest)) h = All-cons Fits _ [] h (All-nil Fits)
stopped_fits (Some (change.Site name version text)) h = All-nil Fits
stopped_fits (Some (change.File digest bytes)) h = All-nil Fits
stopped_fits (Some (change.Computer name)) h = All-nil Fits
stopped_fits (Some (change.Report computer seq digest)) h = All-nil Fits
stopped_fits (Some (change.Result result)) h = All-nil Fits

pub result_fits : (report : Report) (row : ReportRow) → IsReport report → IsReportRow report.form row → Fits (result_of report row)
result_fits report row is good = record { computer = is.computer; row = (report.form, good); seq = is.seq }

pub results_fit : (report : Report) (p : ReportRow → Bool) → IsReport report → All Fits (map (result_of report) (filter p report.rows))
results_fit report p is =
    All-map Fits (result_of report) (filter p report.rows)
    (All-filter p (λ row. Fits (result_of report row)) report.rows
    (All-weaker (IsReportRow report.form) (λ row. Fits (result_of report row)) (λ row good. result_fits report row is good) report.rows is.rows.good))

pub puts_fit : (limits : Limits) (rows : List Change) (entry : Entry) → IsEntry entry → AreRows rows → is_none (reply_to limits rows entry) ≡ true → All Fits (puts rows entry)
puts_fit limits rows (Published site) is are h = All-cons Fits _ [] (is.0.name, is.0.version) (All-nil Fits)
puts_fit limits rows (Issued action) is are h =
    All-cons Fits (change.Action action.id (action_text action) (sha256 (action_text action))) (next_version_row rows ∷ []) is.0.id
    (All-cons Fits (next_version_row rows) [] (version_fits rows (act_free limits rows action (action_at action.id rows) h)) (All-nil Fits))
puts_fit limits rows (Stopped id) is are h =
    All-append Fits (stopped_row (action_at id rows)) (next_version_row rows ∷ [])
    (stopped_fits (action_at id rows) (fits_found (asked_key (find.Action id)) rows (action_at id rows) are.fit refl))
    (All-cons Fits (next_version_row rows) [] (version_fits rows (stop_free rows (action_at id rows) h)) (All-nil Fits))
puts_fit limits rows (Filed bytes) is are h = All-cons Fits _ [] tt (All-nil Fits)
puts_fit limits rows (Reported report) is are h =
    let results = map (result_of report) (filter (has_later rows report) report.rows) in
    let row = change.Report report.computer report.seq (sha256 (report_text report)) in
    All-cons Fits (change.Computer report.computer) (row ∷ results) is.computer
    (All-cons Fits row results (is.computer, is.seq) (results_fit report (has_later rows report) is))

pub tables_are_rows : (accepted : List Entry) → AreAccepted accepted → AreRows (view accepted)
tables_are_rows [] h = AreRows-nil
tables_are_rows (entry ∷ before) h =
    let are = tables_are_rows before h.2 in
    AreRows-put_all (puts (view before) entry) (view before) (puts_fit h.1.0 (view before) entry (entry_of h.0.0 entry h.0.1) are h.1.1) are
