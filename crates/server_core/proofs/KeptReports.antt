-- What is kept of computers and reports.
use Rattle.std.proofs.Common.{◌≡◌, ℕ, ◌⊎◌, inl, inr, List, [], ◌∷◌, ◌++◌, Bool, true, false, cond, Some, None, is_none, filter, map, refl, sym, ap, ◌∙◌, subst}
use Rattle.std.specs.Prelude.{Contains}
use Rattle.std.specs.declared.option.Option.{Option}
use Rattle.sha2.specs.Sha256.{sha256}
use Rattle.fix_site.specs.declared.site.Site.{Site}
use Rattle.fix_site.specs.declared.action.Action.{Action}
use Rattle.report_text.specs.declared.report.Report.{Report}
use Rattle.report_text.specs.declared.report_row.ReportRow.{ReportRow}
use Rattle.report_text.specs.Reports.{report_text}
use Rattle.desk_keep.specs.declared.change.Change.{Change}
use Rattle.desk_keep.specs.declared.change.Change.TheVariants as change
use Rattle.desk_keep.specs.declared.find.Find.TheVariants as find
use Rattle.desk_keep.specs.Keys.{Key, asked_key, key_of, same_key}
use Rattle.desk_keep.proofs.KeyOrder.{same_exact}
use Rattle.server_core.specs.declared.limits.Limits.{Limits}
use Rattle.server_core.specs.CallAnswers.{AreAccepted, is_accepted}
use Rattle.server_text.specs.Entries.{Entry, Filed, Issued, Published, Reported, Stopped}
use Rattle.server_core.specs.Replies.{reply_to_report}
use Rattle.server_core.specs.AcceptedTables.{action_at, computer_at, has_later, next_version_row, puts, report_at, result_of, stopped_row, view}
use Rattle.server_core.specs.TableViews.{IsReportOf, ShowsComputer, ShowsReport}
use Rattle.server_core.proofs.Accepting.{not_so}
use Rattle.server_core.proofs.RowsAfter.{cons_head, cons_tail, in_cons, in_nothing, other_key, row_after, row_at-put_all}

pub not_site : (site : Site) (report : Report) → Published site ≡ Reported report → ⊥
not_site site report e = cc

pub not_action : (action : Action) (report : Report) → Issued action ≡ Reported report → ⊥
not_action action report e = cc

pub not_stop : (id : ℕ) (report : Report) → Stopped id ≡ Reported report → ⊥
not_stop id report e = cc

pub not_file : (bytes : List ℕ) (report : Report) → Filed bytes ≡ Reported report → ⊥
not_file bytes report e = cc

pub same_report : (report other : Report) → Reported report ≡ Reported other → report ≡ other
same_report report other e = cc

-- ---- computers

lifted_computer : (computer : List ℕ) (entry : Entry) (before : List Entry) (row : Option Change) → ((report : Report) → entry ≡ Reported report → ¬ (report.computer ≡ computer)) → ShowsComputer before computer row → ShowsComputer (entry ∷ before) computer row
lifted_computer computer entry before None apart h = λ report is.
    elim (in_cons entry before (Reported report) is.0) as (λ c. ⊥) [ inl e ↦ apart report e is.1 | inr rest ↦ h report (rest, is.1) ]
lifted_computer computer entry before (Some row) apart h = ((h.0.0, (cons_tail entry before (Reported h.0.0) h.0.1.0, h.0.1.1)), h.1)

computer_results : (computer : List ℕ) (report : Report) (rows : List ReportRow) (old : Option Change) → row_after (asked_key (find.Computer computer)) (map (result_of report) rows) old ≡ old
computer_results computer report [] old = refl
computer_results computer report (row ∷ rows) old = computer_results computer report rows old

computer_stopped : (computer : List ℕ) (found : Option Change) (rows : List Change) (old : Option Change) → row_after (asked_key (find.Computer computer)) (stopped_row found ++ next_version_row rows ∷ []) old ≡ old
computer_stopped computer None rows old = refl
computer_stopped computer (Some (change.Action id text digest)) rows old = refl
computer_stopped computer (Some (change.Site name version text)) rows old = refl
computer_stopped computer (Some (change.File digest bytes)) rows old = refl
computer_stopped computer (Some (change.Computer name)) rows old = refl
computer_stopped computer (Some (change.Report name seq digest)) rows old = refl
computer_stopped computer (Some (change.Result result)) rows old = refl

computer_reported : (computer : List ℕ) (report : Report) (before : List Entry) (old : Option Change) → ShowsComputer before computer old
    → ShowsComputer (Reported report ∷ before) computer (cond (same_key (asked_key (find.Computer computer)) (key_of (change.Computer report.computer))) (Some (change.Computer report.computer)) old)
computer_reported computer report before old h =
    let key = asked_key (find.Computer computer) in
    let other = key_of (change.Computer report.computer) in
    elim (same_key key other) as (λ b. same_key key other ≡ b → ShowsComputer (Reported report ∷ before) computer (cond b (Some (change.Computer report.computer)) old)) [
      | true ↦ λ e.
          let same : computer ≡ report.computer = ap (λ k. k.name) (same_exact key other e) in
          ((report, (cons_head (Reported report) before, sym same)), ap (λ c. change.Computer c) (sym same))
      | false ↦ λ e.
          lifted_computer computer (Reported report) before old
          (λ own is same. other_key key other e (ap (λ c. asked_key (find.Computer c)) (sym same ∙ ap (λ r. r.computer) (sym (same_report report own is))))) h
    ] refl

computer_shown : (entry : Entry) (before : List Entry) (computer : List ℕ) (old : Option Change) → ShowsComputer before computer old
    → ShowsComputer (entry ∷ before) computer (row_after (asked_key (find.Computer computer)) (puts (view before) entry) old)
computer_shown (Published site) before computer old h = lifted_computer computer (Published site) before old (λ r e same. not_site site r e) h
computer_shown (Issued action) before computer old h = lifted_computer computer (Issued action) before old (λ r e same. not_action action r e) h
computer_shown (Stopped id) before computer old h =
    subst (ShowsComputer (Stopped id ∷ before) computer) (sym (computer_stopped computer (action_at id (view before)) (view before) old))
    (lifted_computer computer (Stopped id) before old (λ r e same. not_stop id r e) h)
computer_shown (Filed bytes) before computer old h = lifted_computer computer (Filed bytes) before old (λ r e same. not_file bytes r e) h
computer_shown (Reported report) before computer old h =
    subst (ShowsComputer (Reported report ∷ before) computer)
    (sym (computer_results computer report (filter (has_later (view before) report) report.rows)
    (cond (same_key (asked_key (find.Computer computer)) (key_of (change.Computer report.computer))) (Some (change.Computer report.computer)) old)))
    (computer_reported computer report before old h)

pub computers_shown : (accepted : List Entry) (computer : List ℕ) → ShowsComputer accepted computer (computer_at computer (view accepted))
computers_shown [] computer = λ report is. in_nothing (Reported report) is.0
computers_shown (entry ∷ before) computer =
    subst (ShowsComputer (entry ∷ before) computer) (sym (row_at-put_all (asked_key (find.Computer computer)) (puts (view before) entry) (view before)))
    (computer_shown entry before computer (computer_at computer (view before)) (computers_shown before computer))

-- ---- reports

-- no report of this computer and number
abbrev Apart : List ℕ → ℕ → Entry → Type 0
Apart computer seq entry = (report : Report) → entry ≡ Reported report → report.computer ≡ computer → ¬ (report.seq ≡ seq)

lifted_report : (computer : List ℕ) (seq : ℕ) (entry : Entry) (before : List Entry) (row : Option Change) → Apart computer seq entry → ShowsReport before computer seq row → ShowsReport (entry ∷ before) computer seq row
lifted_report computer seq entry before None apart h = λ report is same.
    elim (in_cons entry before (Reported report) is.0) as (λ c. ⊥) [ inl e ↦ apart report e is.1 same | inr rest ↦ h report (rest, is.1) same ]
lifted_report computer seq entry before (Some row) apart h = (
  h.0,
  (cons_tail entry before (Reported h.0) h.1.0, h.1.1),
  h.2,
  (λ other is same. elim (in_cons entry before (Reported other) is.0) as (λ c. other ≡ h.0) [
    | inl e ↦ absurd (apart other e is.1 same)
    | inr rest ↦ h.3 other (rest, is.1) same
  ]),
  h.4,
)

report_results : (computer : List ℕ) (seq : ℕ) (report : Report) (rows : List ReportRow) (old : Option Change) → row_after (asked_key (find.Report computer seq)) (map (result_of report) rows) old ≡ old
report_results computer seq report [] old = refl
report_results computer seq report (row ∷ rows) old = report_results computer seq report rows old

report_stopped : (computer : List ℕ) (seq : ℕ) (found : Option Change) (rows : List Change) (old : Option Change) → row_after (asked_key (find.Report computer seq)) (stopped_row found ++ next_version_row rows ∷ []) old ≡ old
report_stopped computer seq None rows old = refl
report_stopped computer seq (Some (change.Action id text digest)) rows old = refl
report_stopped computer seq (Some (change.Site name version text)) rows old = refl
report_stopped computer seq (Some (change.File digest bytes)) rows old = refl
report_stopped computer seq (Some (change.Computer name)) rows old = refl
report_stopped computer seq (Some (change.Report name number digest)) rows old = refl
report_stopped computer seq (Some (change.Result result)) rows old = refl

-- of a report that is accepted none was kept
pub none_kept : (limits : Limits) (before : List Entry) (rows : List Change) (report : Report) (found : Option Change) → ShowsReport before report.computer report.seq found
    → is_none (reply_to_report limits rows report found) ≡ true → found ≡ None
none_kept limits before rows report None h free = refl
none_kept limits before rows report (Some row) h free =
    absurd (not_so (subst (λ r. is_none (reply_to_report limits rows report (Some r)) ≡ true) h.4 free))

new_report : (limits : Limits) (report : Report) (before : List Entry) (rows : List Change) (old : Option Change) → ShowsReport before report.computer report.seq old
    → is_none (reply_to_report limits rows report old) ≡ true
    → ShowsReport (Reported report ∷ before) report.computer report.seq (Some (change.Report report.computer report.seq (sha256 (report_text report))))
new_report limits report before rows old h free =
    let none : ShowsReport before report.computer report.seq None = subst (ShowsReport before report.computer report.seq) (none_kept limits before rows report old h free) h in (
      report,
      (cons_head (Reported report) before, refl),
      refl,
      (λ other is same. elim (in_cons (Reported report) before (Reported other) is.0) as (λ c. other ≡ report) [
        | inl e ↦ sym (same_report report other e)
        | inr rest ↦ absurd (none other (rest, is.1) same)
      ]),
      refl,
    )

report_shown : (entry : Entry) (before : List Entry) (computer : List ℕ) (seq : ℕ) → ((limits : Limits) × (is_accepted before limits entry ≡ true))
    → ShowsReport before computer seq (report_at computer seq (view before))
    → ShowsReport (entry ∷ before) computer seq (row_after (asked_key (find.Report computer seq)) (puts (view before) entry) (report_at computer seq (view before)))
report_shown (Published site) before computer seq free h = lifted_report computer seq (Published site) before _ (λ r e c s. not_site site r e) h
report_shown (Issued action) before computer seq free h = lifted_report computer seq (Issued action) before _ (λ r e c s. not_action action r e) h
report_shown (Stopped id) before computer seq free h =
    subst (ShowsReport (Stopped id ∷ before) computer seq) (sym (report_stopped computer seq (action_at id (view before)) (view before) (report_at computer seq (view before))))
    (lifted_report computer seq (Stopped id) before (report_at computer seq (view before)) (λ r e c s. not_stop id r e) h)
report_shown (Filed bytes) before computer seq free h = lifted_report computer seq (Filed bytes) before _ (λ r e c s. not_file bytes r e) h
report_shown (Reported report) before computer seq free h =
    let rows = view before in
    let key = asked_key (find.Report computer seq) in
    let other = asked_key (find.Report report.computer report.seq) in
    let row = change.Report report.computer report.seq (sha256 (report_text report)) in
    let old = report_at computer seq rows in
    subst (ShowsReport (Reported report ∷ before) computer seq)
    (sym (report_results computer seq report (filter (has_later rows report) report.rows) (cond (same_key key other) (Some row) old)))
    (elim (same_key key other) as (λ b. same_key key other ≡ b → ShowsReport (Reported report ∷ before) computer seq (cond b (Some row) old)) [
      | true ↦ λ e.
          let is = same_exact key other e in
          let Q : List ℕ × ℕ → Type 0 = λ q. ShowsReport before q.0 q.1 (report_at q.0 q.1 rows) in
          let R : List ℕ × ℕ → Type 0 = λ q. ShowsReport (Reported report ∷ before) q.0 q.1 (Some row) in
          let there : Q (report.computer, report.seq) = subst Q (λ i. ((is i).name, (is i).number)) h in
          subst R (λ i. ((sym is i).name, (sym is i).number)) (new_report free.0 report before rows (report_at report.computer report.seq rows) there free.1)
      | false ↦ λ e.
          lifted_report computer seq (Reported report) before old
          (λ own is c s. other_key key other e
          (let same = sym (same_report report own is) in λ i. asked_key (find.Report ((sym c ∙ ap (λ r. r.computer) same) i) ((sym s ∙ ap (λ r. r.seq) same) i)))) h
    ] refl)

pub reports_shown : (accepted : List Entry) (computer : List ℕ) (seq : ℕ) → AreAccepted accepted → ShowsReport accepted computer seq (report_at computer seq (view accepted))
reports_shown [] computer seq are = λ report is same. in_nothing (Reported report) is.0
reports_shown (entry ∷ before) computer seq are =
    subst (ShowsReport (entry ∷ before) computer seq) (sym (row_at-put_all (asked_key (find.Report computer seq)) (puts (view before) entry) (view before)))
    (report_shown entry before computer seq are.1 (reports_shown before computer seq are.2))
