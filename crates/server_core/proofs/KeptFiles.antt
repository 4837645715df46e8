-- What is kept of files.
use Rattle.std.proofs.Common.{◌≡◌, ℕ, ◌⊎◌, inl, inr, List, [], ◌∷◌, ◌++◌, Bool, true, false, cond, Some, None, filter, map, refl, sym, ap, ◌∙◌, subst}
use Rattle.std.specs.Prelude.{Contains}
use Rattle.std.specs.declared.option.Option.{Option}
use Rattle.fix_site.specs.declared.site.Site.{Site}
use Rattle.fix_site.specs.declared.action.Action.{Action}
use Rattle.report_text.specs.declared.report.Report.{Report}
use Rattle.report_text.specs.declared.report_row.ReportRow.{ReportRow}
use Rattle.sha2.specs.Sha256.{sha256}
use Rattle.desk_keep.specs.declared.change.Change.{Change}
use Rattle.desk_keep.specs.declared.change.Change.TheVariants as change
use Rattle.desk_keep.specs.declared.find.Find.TheVariants as find
use Rattle.desk_keep.specs.Keys.{Key, asked_key, key_of, same_key}
use Rattle.desk_keep.specs.Tables.{put_all, row_at}
use Rattle.desk_keep.proofs.KeyOrder.{same_exact}
use Rattle.server_text.specs.Entries.{Entry, Filed, Issued, Published, Reported, Stopped}
use Rattle.server_core.specs.AcceptedTables.{action_at, file_at, has_later, next_version_row, puts, result_of, stopped_row, view}
use Rattle.server_core.specs.TableViews.{ShowsFile}
use Rattle.server_core.proofs.RowsAfter.{cons_head, cons_tail, in_cons, in_nothing, other_key, row_after, row_at-put_all}

-- what isn't a file of this digest leaves its row
lifted : (digest : List ℕ) (entry : Entry) (before : List Entry) (row : Option Change) → ((bytes : List ℕ) → entry ≡ Filed bytes → ¬ (sha256 bytes ≡ digest)) → ShowsFile before digest row → ShowsFile (entry ∷ before) digest row
lifted digest entry before None apart h = λ bytes has same.
    elim (in_cons entry before (Filed bytes) has) as (λ c. ⊥) [ inl e ↦ apart bytes e same | inr rest ↦ h bytes rest same ]
lifted digest entry before (Some row) apart h = (h.0, cons_tail entry before (Filed h.0) h.1, h.2, h.3)

same_bytes : (bytes other : List ℕ) → Filed bytes ≡ Filed other → bytes ≡ other
same_bytes bytes other e = cc

filed : (digest bytes : List ℕ) (before : List Entry) (old : Option Change) → ShowsFile before digest old
    → ShowsFile (Filed bytes ∷ before) digest (cond (same_key (asked_key (find.File digest)) (key_of (change.File (sha256 bytes) bytes))) (Some (change.File (sha256 bytes) bytes)) old)
filed digest bytes before old h =
    let key = asked_key (find.File digest) in
    let other = key_of (change.File (sha256 bytes) bytes) in
    elim (same_key key other) as (λ b. same_key key other ≡ b → ShowsFile (Filed bytes ∷ before) digest (cond b (Some (change.File (sha256 bytes) bytes)) old)) [
      | true ↦ λ e.
          let same : digest ≡ sha256 bytes = ap (λ k. k.name) (same_exact key other e) in
          (bytes, cons_head (Filed bytes) before, sym same, ap (λ d. change.File d bytes) (sym same))
      | false ↦ λ e.
          lifted digest (Filed bytes) before old
          (λ own is same. other_key key other e (ap (λ d. asked_key (find.File d)) (sym same ∙ ap sha256 (sym (same_bytes bytes own is))))) h
    ] refl

not_site : (site : Site) (bytes : List ℕ) → Published site ≡ Filed bytes → ⊥
not_site site bytes e = cc

not_action : (action : Action) (bytes : List ℕ) → Issued action ≡ Filed bytes → ⊥
not_action action bytes e = cc

not_stop : (id : ℕ) (bytes : List ℕ) → Stopped id ≡ Filed bytes → ⊥
not_stop id bytes e = cc

not_report : (report : Report) (bytes : List ℕ) → Reported report ≡ Filed bytes → ⊥
not_report report bytes e = cc

-- rows of other tables leave it
results_kept : (digest : List ℕ) (report : Report) (rows : List ReportRow) (old : Option Change) → row_after (asked_key (find.File digest)) (map (result_of report) rows) old ≡ old
results_kept digest report [] old = refl
results_kept digest report (row ∷ rows) old = results_kept digest report rows old

kept : (digest : List ℕ) (found : Option Change) (rows : List Change) (old : Option Change) → row_after (asked_key (find.File digest)) (stopped_row found ++ next_version_row rows ∷ []) old ≡ old
kept digest None rows old = refl
kept digest (Some (change.Action id text digest')) rows old = refl
kept digest (Some (change.Site name version text)) rows old = refl
kept digest (Some (change.File d bytes)) rows old = refl
kept digest (Some (change.Computer name)) rows old = refl
kept digest (Some (change.Report computer seq d)) rows old = refl
kept digest (Some (change.Result result)) rows old = refl

shown : (entry : Entry) (before : List Entry) (digest : List ℕ) (old : Option Change) → ShowsFile before digest old
    → ShowsFile (entry ∷ before) digest (row_after (asked_key (find.File digest)) (puts (view before) entry) old)
shown (Published site) before digest old h = lifted digest (Published site) before old (λ bytes e same. not_site site bytes e) h
shown (Issued action) before digest old h = lifted digest (Issued action) before old (λ bytes e same. not_action action bytes e) h
shown (Stopped id) before digest old h =
    subst (ShowsFile (Stopped id ∷ before) digest) (sym (kept digest (action_at id (view before)) (view before) old))
    (lifted digest (Stopped id) before old (λ bytes e same. not_stop id bytes e) h)
shown (Filed bytes) before digest old h = filed digest bytes before old h
shown (Reported report) before digest old h =
    subst (ShowsFile (Reported report ∷ before) digest) (sym (results_kept digest report (filter (has_later (view before) report) report.rows) old))
    (lifted digest (Reported report) before old (λ bytes e same. not_report report bytes e) h)

pub files_shown : (accepted : List Entry) (digest : List ℕ) → ShowsFile accepted digest (file_at digest (view accepted))
files_shown [] digest = λ bytes has same. in_nothing (Filed bytes) has
files_shown (entry ∷ before) digest =
    subst (ShowsFile (entry ∷ before) digest) (sym (row_at-put_all (asked_key (find.File digest)) (puts (view before) entry) (view before)))
    (shown entry before digest (file_at digest (view before)) (files_shown before digest))
