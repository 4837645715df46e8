-- What was accepted once isn't accepted again.
use Rattle.std.proofs.Common.{◌≡◌, ◌≢◌, ℕ, ◌+◌, ◌<◌, ◌≤◌, nat_le, nat_eq, ◌&&◌, ◌⊎◌, inl, inr, List, [], ◌∷◌, ◌++◌, Bool, true, false, cond, Some, None, is_none, codes, filter, refl, sym, ap, ◌∙◌, subst, arith}
use Rattle.std.specs.Prelude.{Contains, bytes_eq}
use Rattle.std.specs.declared.option.Option.{Option}
use Rattle.std.proofs.lemmas.Bool.Decides.{nat_tests}
use Rattle.sha2.specs.Sha256.{sha256}
use Rattle.fix_site.specs.declared.site.Site.{Site}
use Rattle.fix_site.specs.declared.action.Action.{Action}
use Rattle.fix_site.specs.Sites.{site_text}
use Rattle.report_text.specs.declared.report.Report.{Report}
use Rattle.desk_keep.specs.declared.change.Change.{Change}
use Rattle.desk_keep.specs.declared.change.Change.TheVariants as change
use Rattle.desk_keep.specs.Keys.{key_of, same_key}
use Rattle.desk_keep.proofs.KeyOrder.{same_exact, same_itself}
use Rattle.server_core.specs.declared.limits.Limits.{Limits}
use Rattle.server_text.specs.declared.reply.Reply.{Reply}
use Rattle.server_text.specs.declared.reply.Reply.TheVariants.{Again, Older}
use Rattle.server_core.specs.CallAnswers.{AreAccepted, after}
use Rattle.server_text.specs.Entries.{Enters, Entry, Filed, Issued, Published, Reported, Stopped}
use Rattle.server_core.specs.Replies.{full_version, reply_to, reply_to_action, reply_to_file, reply_to_report, reply_to_site, reply_to_stop}
use Rattle.server_core.specs.AcceptedTables.{action_at, actions_version, file_at, has_later, puts, report_at, site_at, view}
use Rattle.server_core.specs.TableViews.{ShowsFile, ShowsReport}
use Rattle.server_core.proofs.Accepting.{IsEntry, entry_of, not_so}
use Rattle.server_text.proofs.ActionTexts.{stopped_known}
use Rattle.server_core.proofs.KeptActions.{Shown, kept, stands}
use Rattle.server_core.proofs.KeptFiles.{files_shown}
use Rattle.server_core.proofs.KeptReports.{reports_shown}
use Rattle.server_core.proofs.KeptSites.{key_for, other_site, site_results, site_stopped}
use Rattle.server_core.proofs.RowsAfter.{in_cons, in_nothing, row_after, row_at-put_all}

pub member_is : (accepted : List Entry) → AreAccepted accepted → (entry : Entry) → Contains accepted entry → IsEntry entry
member_is [] are entry has = absurd (in_nothing entry has)
member_is (first ∷ before) are entry has = elim (in_cons first before entry has) as (λ c. IsEntry entry) [
  | inl e ↦ subst IsEntry e (entry_of are.0.0 first are.0.1)
  | inr rest ↦ member_is before are.2 entry rest
]

-- ---- sites: the version that is kept is never below one that was accepted

abbrev pub AtLeast : ℕ → Option Change → Type 0
AtLeast version (Some (change.Site name kept text)) = version ≤ kept
AtLeast version other = ⊥

le_true : (a b : ℕ) → a ≤ b → nat_le a b ≡ true
le_true a b h = grind (arith, nat_tests)

again_or_older : (again : Bool) (version own : ℕ) → is_none (cond again (Some Again) (cond (nat_le own version) (Some (Older version)) None)) ≡ true → version < own
again_or_older true version own h = absurd (not_so h)
again_or_older false version own h =
    elim (nat_le own version) as (λ b. nat_le own version ≡ b → is_none (cond b (Some (Older version)) None) ≡ true → version < own) [
      | true ↦ λ e k. absurd (not_so k)
      | false ↦ λ e k. grind (arith, nat_tests)
    ] refl h

newer : (limits : Limits) (rows : List Change) (site : Site) (found : Option Change) (version : ℕ) → is_none (reply_to_site limits rows site found) ≡ true → AtLeast version found → version ≤ site.version
newer limits rows site (Some (change.Site name kept text)) version free h =
    let less = again_or_older (nat_eq kept site.version && bytes_eq text (site_text site)) kept site.version free in
    omega arith
newer limits rows site None version free h = absurd h
newer limits rows site (Some (change.Action id text digest)) version free h = absurd h
newer limits rows site (Some (change.File digest bytes)) version free h = absurd h
newer limits rows site (Some (change.Computer name)) version free h = absurd h
newer limits rows site (Some (change.Report computer seq digest)) version free h = absurd h
newer limits rows site (Some (change.Result result)) version free h = absurd h

grows : (limits : Limits) (entry : Entry) (before : List Entry) (name : List ℕ) (version : ℕ) → (name ≡ codes "actionsite" → ⊥) → is_none (reply_to limits (view before) entry) ≡ true → AtLeast version (site_at name (view before))
    → AtLeast version (row_after (key_for name) (puts (view before) entry) (site_at name (view before)))
grows limits (Published site) before name version other free h =
    let rows = view before in
    let row = change.Site site.name site.version (site_text site) in
    elim (same_key (key_for name) (key_for site.name)) as (λ b. same_key (key_for name) (key_for site.name) ≡ b → AtLeast version (cond b (Some row) (site_at name rows))) [
      | true ↦ λ e.
          let same : name ≡ site.name = ap (λ k. k.name) (same_exact (key_for name) (key_for site.name) e) in
          let P : List ℕ → Type 0 = λ n. AtLeast version (site_at n rows) in
          newer limits rows site (site_at site.name rows) version free (subst P same h)
      | false ↦ λ e. h
    ] refl
grows limits (Issued action) before name version other free h =
    subst (AtLeast version) (sym (other_site name (codes "actionsite") (actions_version (view before) + 1) [] (site_at name (view before)) other)) h
grows limits (Stopped id) before name version other free h =
    subst (AtLeast version)
    (sym (site_stopped name (action_at id (view before)) (view before) (site_at name (view before)) ∙ other_site name (codes "actionsite") (actions_version (view before) + 1) [] (site_at name (view before)) other)) h
grows limits (Filed bytes) before name version other free h = h
grows limits (Reported report) before name version other free h =
    subst (AtLeast version) (sym (site_results name report (filter (has_later (view before) report) report.rows) (site_at name (view before)))) h

itself : (n : ℕ) → n ≤ n
itself n = omega arith

published_now : (before : List Entry) (site : Site) → AtLeast site.version (row_after (key_for site.name) (puts (view before) (Published site)) (site_at site.name (view before)))
published_now before site =
    let P : Bool → Type 0 = λ b. AtLeast site.version (cond b (Some (change.Site site.name site.version (site_text site))) (site_at site.name (view before))) in
    subst P (sym (same_itself (key_for site.name))) (itself site.version)

pub sites_stay : (accepted : List Entry) → AreAccepted accepted → (site : Site) → Contains accepted (Published site) → AtLeast site.version (site_at site.name (view accepted))
sites_stay [] are site has = absurd (in_nothing (Published site) has)
sites_stay (entry ∷ before) are site has =
    let is : IsEntry (Published site) = member_is (entry ∷ before) are (Published site) has in
    subst (AtLeast site.version) (sym (row_at-put_all (key_for site.name) (puts (view before) entry) (view before)))
    (elim (in_cons entry before (Published site) has) as (λ c. AtLeast site.version (row_after (key_for site.name) (puts (view before) entry) (site_at site.name (view before)))) [
      | inl e ↦
          let P : Entry → Type 0 = λ n. AtLeast site.version (row_after (key_for site.name) (puts (view before) n) (site_at site.name (view before))) in
          subst P (sym e) (published_now before site)
      | inr rest ↦ grows are.1.0 entry before site.name site.version is.1 are.1.1 (sites_stay before are.2 site rest)
    ])

told_older : (again : Bool) (own version : ℕ) → own ≤ version → is_none (cond again (Some Again) (cond (nat_le own version) (Some (Older version)) None)) ≡ false
told_older true own version h = refl
told_older false own version h = ap (λ b. is_none (cond b (Some (Older version)) None)) (le_true own version h)

site_stays : (limits : Limits) (rows : List Change) (site : Site) (found : Option Change) → AtLeast site.version found → is_none (reply_to_site limits rows site found) ≡ false
site_stays limits rows site (Some (change.Site name kept text)) h = told_older (nat_eq kept site.version && bytes_eq text (site_text site)) site.version kept h
site_stays limits rows site None h = absurd h
site_stays limits rows site (Some (change.Action id text digest)) h = absurd h
site_stays limits rows site (Some (change.File digest bytes)) h = absurd h
site_stays limits rows site (Some (change.Computer name)) h = absurd h
site_stays limits rows site (Some (change.Report computer seq digest)) h = absurd h
site_stays limits rows site (Some (change.Result result)) h = absurd h

-- ---- actions, stops, files, reports

action_stays : (limits : Limits) (rows : List Change) (action : Action) (accepted : List Entry) (found : Option Change) → Shown accepted action.id found → Contains accepted (Issued action) → is_none (reply_to_action limits rows action found) ≡ false
action_stays limits rows action accepted None h has = absurd (h.0 action has refl)
action_stays limits rows action accepted (Some row) h has =
    let P : Change → Type 0 = λ r. is_none (reply_to_action limits rows action (Some r)) ≡ false in
    subst P (sym h.5) refl

stop_stays : (rows : List Change) (id : ℕ) (accepted : List Entry) (found : Option Change) → Shown accepted id found → Contains accepted (Stopped id) → is_none (reply_to_stop rows found) ≡ false
stop_stays rows id accepted None h has = absurd (h.1 has)
stop_stays rows id accepted (Some row) h has =
    let P : Change → Type 0 = λ r. is_none (reply_to_stop rows (Some r)) ≡ false in
    subst P (sym h.5) (ap (λ b. is_none (cond b (Some Again) (full_version rows))) (stopped_known (stands h.0 h.1) ∙ h.4.1 has))

file_stays : (limits : Limits) (rows : List Change) (bytes : List ℕ) (accepted : List Entry) (found : Option Change) → ShowsFile accepted (sha256 bytes) found → Contains accepted (Filed bytes) → is_none (reply_to_file limits rows bytes found) ≡ false
file_stays limits rows bytes accepted None h has = absurd (h bytes has refl)
file_stays limits rows bytes accepted (Some row) h has = refl

report_stays : (limits : Limits) (rows : List Change) (report : Report) (accepted : List Entry) (found : Option Change) → ShowsReport accepted report.computer report.seq found → Contains accepted (Reported report) → is_none (reply_to_report limits rows report found) ≡ false
report_stays limits rows report accepted None h has = absurd (h report (has, refl) refl)
report_stays limits rows report accepted (Some row) h has =
    let P : Change → Type 0 = λ r. is_none (reply_to_report limits rows report (Some r)) ≡ false in
    subst P (sym h.4) refl

refused_again : (accepted : List Entry) (limits : Limits) (entry : Entry) → AreAccepted accepted → Contains accepted entry → is_none (reply_to limits (view accepted) entry) ≡ false
refused_again accepted limits (Published site) are has = site_stays limits (view accepted) site (site_at site.name (view accepted)) (sites_stay accepted are site has)
refused_again accepted limits (Issued action) are has = action_stays limits (view accepted) action accepted (action_at action.id (view accepted)) (kept accepted are action.id) has
refused_again accepted limits (Stopped id) are has = stop_stays (view accepted) id accepted (action_at id (view accepted)) (kept accepted are id) has
refused_again accepted limits (Filed bytes) are has = file_stays limits (view accepted) bytes accepted (file_at (sha256 bytes) (view accepted)) (files_shown accepted (sha256 bytes)) has
refused_again accepted limits (Reported report) are has =
    report_stays limits (view accepted) report accepted (report_at report.computer report.seq (view accepted)) (reports_shown accepted report.computer report.seq are) has

pub stays : (accepted : List Entry) (limits : Limits) (entry : Entry) → AreAccepted accepted → Contains accepted entry → after accepted limits (Enters entry) ≡ accepted
stays accepted limits entry are has = ap (λ b. cond b (entry ∷ accepted) accepted) (refused_again accepted limits entry are has)
