-- What is kept of sites, and the version of `actionsite`.
use Rattle.std.proofs.Common.{◌≡◌, ◌≢◌, ℕ, ◌+◌, ◌⊎◌, inl, inr, List, [], ◌∷◌, ◌++◌, Bool, true, false, cond, Some, None, codes, filter, map, refl, sym, ap, ◌∙◌, subst, add_comm, zero-add}
use Rattle.std.specs.Prelude.{Contains, count_by}
use Rattle.std.specs.declared.option.Option.{Option}
use Rattle.std.proofs.lemmas.List.Sums.{sum_by-cons}
use Rattle.fix_site.specs.declared.site.Site.{Site}
use Rattle.fix_site.specs.declared.action.Action.{Action}
use Rattle.fix_site.specs.Sites.{site_text}
use Rattle.report_text.specs.declared.report.Report.{Report}
use Rattle.report_text.specs.declared.report_row.ReportRow.{ReportRow}
use Rattle.desk_keep.specs.declared.change.Change.{Change}
use Rattle.desk_keep.specs.declared.change.Change.TheVariants as change
use Rattle.desk_keep.specs.declared.find.Find.TheVariants as find
use Rattle.desk_keep.specs.Keys.{Key, asked_key, key_of, same_key}
use Rattle.desk_keep.proofs.KeyOrder.{same_exact}
use Rattle.server_core.specs.CallAnswers.{AreAccepted}
use Rattle.server_text.specs.Entries.{Entry, Filed, Issued, Published, Reported, Stopped}
use Rattle.server_core.specs.AcceptedTables.{action_at, actions_version, has_later, next_version_row, puts, result_of, site_at, stopped_row, version_in, view}
use Rattle.server_core.specs.TableViews.{IsLastSite, ShowsSite, changes_actions}
use Rattle.server_core.proofs.Accepting.{IsEntry, entry_of}
use Rattle.server_core.proofs.RowsAfter.{cons_head, cons_tail, in_cons, in_nothing, other_key, row_after, row_at-put_all}

abbrev pub key_for : List ℕ → Key
key_for name = asked_key (find.Site name)

not_action : (action : Action) (site : Site) → Issued action ≡ Published site → ⊥
not_action action site e = cc

not_stop : (id : ℕ) (site : Site) → Stopped id ≡ Published site → ⊥
not_stop id site e = cc

not_file : (bytes : List ℕ) (site : Site) → Filed bytes ≡ Published site → ⊥
not_file bytes site e = cc

not_report : (report : Report) (site : Site) → Reported report ≡ Published site → ⊥
not_report report site e = cc

same_site : (site other : Site) → Published site ≡ Published other → site ≡ other
same_site site other e = cc

-- rows of results leave a site's
pub site_results : (name : List ℕ) (report : Report) (rows : List ReportRow) (old : Option Change) → row_after (key_for name) (map (result_of report) rows) old ≡ old
site_results name report [] old = refl
site_results name report (row ∷ rows) old = site_results name report rows old

-- of what an act or a stop puts, the row of `actionsite` alone is one of a site
pub site_stopped : (name : List ℕ) (found : Option Change) (rows : List Change) (old : Option Change) → row_after (key_for name) (stopped_row found ++ next_version_row rows ∷ []) old ≡ row_after (key_for name) (next_version_row rows ∷ []) old
site_stopped name None rows old = refl
site_stopped name (Some (change.Action id text digest)) rows old = refl
site_stopped name (Some (change.Site other version text)) rows old = refl
site_stopped name (Some (change.File digest bytes)) rows old = refl
site_stopped name (Some (change.Computer computer)) rows old = refl
site_stopped name (Some (change.Report computer seq digest)) rows old = refl
site_stopped name (Some (change.Result result)) rows old = refl

-- a row of a site of another name leaves it
pub other_site : (name other : List ℕ) (version : ℕ) (text : List ℕ) (old : Option Change) → (name ≡ other → ⊥) → row_after (key_for name) (change.Site other version text ∷ []) old ≡ old
other_site name other version text old differ =
    elim (same_key (key_for name) (key_for other)) as (λ b. same_key (key_for name) (key_for other) ≡ b → cond b (Some (change.Site other version text)) old ≡ old) [
      | true ↦ λ e. absurd (differ (ap (λ k. k.name) (same_exact (key_for name) (key_for other) e)))
      | false ↦ λ e. refl
    ] refl

-- ---- the version of `actionsite`

counted : (entry : Entry) (before : List Entry) → count_by changes_actions (entry ∷ before) ≡ cond (changes_actions entry) 1 0 + count_by changes_actions before
counted entry before = sum_by-cons (λ e. cond (changes_actions e) 1 0) entry before

version_after : (entry : Entry) (before : List Entry) → IsEntry entry
    → version_in (row_after (key_for (codes "actionsite")) (puts (view before) entry) (site_at (codes "actionsite") (view before))) ≡ cond (changes_actions entry) 1 0 + actions_version (view before)
version_after (Published site) before is =
    ap version_in (other_site (codes "actionsite") site.name site.version (site_text site) (site_at (codes "actionsite") (view before)) (λ e. is.1 (sym e))) ∙ sym (zero-add (actions_version (view before)))
version_after (Issued action) before is = add_comm (actions_version (view before)) 1
version_after (Stopped id) before is =
    ap version_in (site_stopped (codes "actionsite") (action_at id (view before)) (view before) (site_at (codes "actionsite") (view before))) ∙ add_comm (actions_version (view before)) 1
version_after (Filed bytes) before is = sym (zero-add (actions_version (view before)))
version_after (Reported report) before is =
    ap version_in (site_results (codes "actionsite") report (filter (has_later (view before) report) report.rows) (site_at (codes "actionsite") (view before))) ∙ sym (zero-add (actions_version (view before)))

pub version_counted : (accepted : List Entry) → AreAccepted accepted → actions_version (view accepted) ≡ count_by changes_actions accepted
version_counted [] are = refl
version_counted (entry ∷ before) are =
    ap version_in (row_at-put_all (key_for (codes "actionsite")) (puts (view before) entry) (view before))
    ∙ version_after entry before (entry_of are.0.0 entry are.0.1)
    ∙ ap (λ n. cond (changes_actions entry) 1 0 + n) (version_counted before are.2)
    ∙ sym (counted entry before)

-- ---- sites

lifted : (name : List ℕ) (entry : Entry) (before : List Entry) (row : Option Change) → ((site : Site) → entry ≡ Published site → ¬ (site.name ≡ name)) → ShowsSite before name row → ShowsSite (entry ∷ before) name row
lifted name entry before None apart h = λ site has same.
    elim (in_cons entry before (Published site) has) as (λ c. ⊥) [ inl e ↦ apart site e same | inr rest ↦ h site rest same ]
lifted name entry before (Some row) apart h =
    let last = h.1 in (
      h.0,
      (
        entry ∷ last.0,
        last.1,
        ap (λ l. entry ∷ l) last.2,
        last.3,
        (λ other has same. elim (in_cons entry last.0 (Published other) has) as (λ c. ⊥) [ inl e ↦ apart other e same | inr rest ↦ last.4 other rest same ]),
      ),
      h.2,
    )

published : (name : List ℕ) (site : Site) (before : List Entry) (old : Option Change) → ShowsSite before name old
    → ShowsSite (Published site ∷ before) name (cond (same_key (key_for name) (key_for site.name)) (Some (change.Site site.name site.version (site_text site))) old)
published name site before old h =
    let row = change.Site site.name site.version (site_text site) in
    elim (same_key (key_for name) (key_for site.name)) as (λ b. same_key (key_for name) (key_for site.name) ≡ b → ShowsSite (Published site ∷ before) name (cond b (Some row) old)) [
      | true ↦ λ e.
          let same : name ≡ site.name = ap (λ k. k.name) (same_exact (key_for name) (key_for site.name) e) in
          (site, ([], before, refl, sym same, (λ other has is. in_nothing (Published other) has)), ap (λ n. change.Site n site.version (site_text site)) (sym same))
      | false ↦ λ e.
          lifted name (Published site) before old (λ own is same. other_key (key_for name) (key_for site.name) e (ap key_for (sym same ∙ ap (λ s. s.name) (sym (same_site site own is))))) h
    ] refl

shown : (entry : Entry) (before : List Entry) (name : List ℕ) (old : Option Change) → (name ≡ codes "actionsite" → ⊥) → ShowsSite before name old → ShowsSite (entry ∷ before) name (row_after (key_for name) (puts (view before) entry) old)
shown (Published site) before name old other h = published name site before old h
shown (Issued action) before name old other h =
    subst (ShowsSite (Issued action ∷ before) name) (sym (other_site name (codes "actionsite") (actions_version (view before) + 1) [] old other)) (lifted name (Issued action) before old (λ s e same. not_action action s e) h)
shown (Stopped id) before name old other h =
    subst (ShowsSite (Stopped id ∷ before) name) (sym (site_stopped name (action_at id (view before)) (view before) old ∙ other_site name (codes "actionsite") (actions_version (view before) + 1) [] old other))
    (lifted name (Stopped id) before old (λ s e same. not_stop id s e) h)
shown (Filed bytes) before name old other h = lifted name (Filed bytes) before old (λ s e same. not_file bytes s e) h
shown (Reported report) before name old other h =
    subst (ShowsSite (Reported report ∷ before) name) (sym (site_results name report (filter (has_later (view before) report) report.rows) old)) (lifted name (Reported report) before old (λ s e same. not_report report s e) h)

pub sites_shown : (accepted : List Entry) (name : List ℕ) → name ≢ codes "actionsite" → ShowsSite accepted name (site_at name (view accepted))
sites_shown [] name other = λ site has same. in_nothing (Published site) has
sites_shown (entry ∷ before) name other =
    subst (ShowsSite (entry ∷ before) name) (sym (row_at-put_all (key_for name) (puts (view before) entry) (view before)))
    (shown entry before name (site_at name (view before)) other (sites_shown before name other))
