-- What is kept of actions.
use Rattle.std.proofs.Common.{◌≡◌, ℕ, ◌⊎◌, inl, inr, List, [], ◌∷◌, ◌++◌, Bool, true, false, cond, Some, None, is_none, filter, map, refl, sym, ap, ◌∙◌, subst}
use Rattle.std.specs.Prelude.{Contains, IsTrue, ◌↔◌}
use Rattle.std.specs.declared.option.Option.{Option}
use Rattle.sha2.specs.Sha256.{sha256}
use Rattle.fix_site.specs.declared.site.Site.{Site}
use Rattle.fix_site.specs.declared.action.Action.{Action}
use Rattle.fix_site.specs.Actions.{action_text}
use Rattle.report_text.specs.declared.report.Report.{Report}
use Rattle.report_text.specs.declared.report_row.ReportRow.{ReportRow}
use Rattle.desk_keep.specs.declared.change.Change.{Change}
use Rattle.desk_keep.specs.declared.change.Change.TheVariants as change
use Rattle.desk_keep.specs.declared.find.Find.TheVariants as find
use Rattle.desk_keep.specs.Keys.{Key, asked_key, key_of, same_key}
use Rattle.desk_keep.proofs.KeyOrder.{same_exact, same_itself}
use Rattle.server_core.specs.declared.limits.Limits.{Limits}
use Rattle.server_text.specs.ActionStates.{is_stopped, stopped_text}
use Rattle.server_core.specs.CallAnswers.{AreAccepted}
use Rattle.server_text.specs.Entries.{Entry, Filed, Issued, Published, Reported, Stopped}
use Rattle.server_core.specs.Replies.{reply_to, reply_to_action, reply_to_stop}
use Rattle.server_core.specs.AcceptedTables.{action_at, has_later, next_version_row, puts, result_of, stopped_row, view}
use Rattle.server_core.specs.TableViews.{ShowsAction}
use Rattle.server_core.proofs.Accepting.{IsEntry, entry_of, not_so}
use Rattle.server_text.proofs.ActionTexts.{stops_text}
use Rattle.server_core.proofs.RowsAfter.{cons_head, cons_tail, in_cons, in_nothing, other_key, row_after, row_at-put_all}

-- an action, stopped or not
abbrev pub stands : Action → Bool → Action
stands action stopped = record action { stopped = stopped }

-- the row of an action that was issued, stopped or not
abbrev pub action_row : ℕ → Action → Bool → Change
action_row id action stopped = change.Action id (action_text (stands action stopped)) (sha256 (action_text action))

-- What a row shows; where there is none, no stop was accepted.
abbrev pub Shown : List Entry → ℕ → Option Change → Type 0
Shown accepted id None = ((action : Action) → Contains accepted (Issued action) → ¬ (action.id ≡ id)) × (Contains accepted (Stopped id) → ⊥)
Shown accepted id (Some row) =
    (action : Action) × (stopped : Bool) × Contains accepted (Issued action) × (action.id ≡ id) × (IsTrue stopped ↔ Contains accepted (Stopped id)) × (row ≡ action_row id action stopped)

pub shows : (accepted : List Entry) (id : ℕ) (row : Option Change) → Shown accepted id row → ShowsAction accepted id row
shows accepted id None h = h.0
shows accepted id (Some row) h = h

abbrev pub key_for : ℕ → Key
key_for id = asked_key (find.Action id)

-- entries differ
site_or_action : (site : Site) (action : Action) → Published site ≡ Issued action → ⊥
site_or_action site action e = cc

site_or_stop : (site : Site) (id : ℕ) → Published site ≡ Stopped id → ⊥
site_or_stop site id e = cc

file_or_action : (bytes : List ℕ) (action : Action) → Filed bytes ≡ Issued action → ⊥
file_or_action bytes action e = cc

file_or_stop : (bytes : List ℕ) (id : ℕ) → Filed bytes ≡ Stopped id → ⊥
file_or_stop bytes id e = cc

report_or_action : (report : Report) (action : Action) → Reported report ≡ Issued action → ⊥
report_or_action report action e = cc

report_or_stop : (report : Report) (id : ℕ) → Reported report ≡ Stopped id → ⊥
report_or_stop report id e = cc

action_or_stop : (action : Action) (id : ℕ) → Issued action ≡ Stopped id → ⊥
action_or_stop action id e = cc

stop_or_action : (id : ℕ) (action : Action) → Stopped id ≡ Issued action → ⊥
stop_or_action id action e = cc

same_action : (action other : Action) → Issued action ≡ Issued other → action ≡ other
same_action action other e = cc

same_stop : (id other : ℕ) → Stopped id ≡ Stopped other → id ≡ other
same_stop id other e = cc

-- what is of another id, or of no action, leaves the row
lifted : (id : ℕ) (entry : Entry) (before : List Entry) (row : Option Change) → ((action : Action) → entry ≡ Issued action → ¬ (action.id ≡ id)) → (entry ≡ Stopped id → ⊥) → Shown before id row → Shown (entry ∷ before) id row
lifted id entry before None apart going h = (
  (λ action has same. elim (in_cons entry before (Issued action) has) as (λ c. ⊥) [ inl e ↦ apart action e same | inr rest ↦ h.0 action rest same ]),
  (λ has. elim (in_cons entry before (Stopped id) has) as (λ c. ⊥) [ inl e ↦ going e | inr rest ↦ h.1 rest ]),
)
lifted id entry before (Some row) apart going h = (
  h.0,
  h.1,
  cons_tail entry before (Issued h.0) h.2,
  h.3,
  (
    (λ is. cons_tail entry before (Stopped id) (h.4.0 is)),
    (λ has. h.4.1 (elim (in_cons entry before (Stopped id) has) as (λ c. Contains before (Stopped id)) [ inl e ↦ absurd (going e) | inr rest ↦ rest ])),
  ),
  h.5,
)

-- ---- an action that is issued

open_again : (action : Action) → action.stopped ≡ false → action_text action ≡ action_text (stands action false)
open_again action still = let P : Bool → List ℕ = λ b. action_text (stands action b) in ap P still

issued_anew : (limits : Limits) (rows : List Change) (action : Action) (before : List Entry) (old : Option Change) → Shown before action.id old → is_none (reply_to_action limits rows action old) ≡ true → action.stopped ≡ false
    → Shown (Issued action ∷ before) action.id (Some (change.Action action.id (action_text action) (sha256 (action_text action))))
issued_anew limits rows action before None h free still = (
  action,
  false,
  cons_head (Issued action) before,
  refl,
  (
    (λ is. absurd (not_so is)),
    (λ has. absurd (elim (in_cons (Issued action) before (Stopped action.id) has) as (λ c. ⊥) [ inl e ↦ action_or_stop action action.id e | inr rest ↦ h.1 rest ])),
  ),
  ap (λ t. change.Action action.id t (sha256 (action_text action))) (open_again action still),
)
issued_anew limits rows action before (Some row) h free still =
    let P : Change → Type 0 = λ r. is_none (reply_to_action limits rows action (Some r)) ≡ true in
    absurd (not_so (subst P h.5 free))

issued : (limits : Limits) (action : Action) (before : List Entry) (id : ℕ) → ((other : ℕ) → Shown before other (action_at other (view before))) → is_none (reply_to limits (view before) (Issued action)) ≡ true → action.stopped ≡ false
    → Shown (Issued action ∷ before) id (row_after (key_for id) (puts (view before) (Issued action)) (action_at id (view before)))
issued limits action before id h free still =
    let rows = view before in
    let row = change.Action action.id (action_text action) (sha256 (action_text action)) in
    elim (same_key (key_for id) (key_of row)) as (λ b. same_key (key_for id) (key_of row) ≡ b → Shown (Issued action ∷ before) id (cond b (Some row) (action_at id rows))) [
      | true ↦ λ e.
          let same : id ≡ action.id = ap (λ k. k.number) (same_exact (key_for id) (key_for action.id) e) in
          let P : ℕ → Type 0 = λ n. Shown (Issued action ∷ before) n (Some row) in
          subst P (sym same) (issued_anew limits rows action before (action_at action.id rows) (h action.id) free still)
      | false ↦ λ e.
          lifted id (Issued action) before (action_at id rows)
          (λ other is same. other_key (key_for id) (key_for action.id) e (ap key_for (sym same ∙ ap (λ a. a.id) (sym (same_action action other is))))) (λ is. action_or_stop action id is) (h id)
    ] refl

-- ---- an action that is stopped

abbrev pub stop_rows : List Change → Option Change → List Change
stop_rows rows found = stopped_row found ++ next_version_row rows ∷ []

stopped_now : (rows : List Change) (id : ℕ) (before : List Entry) (found : Option Change) → Shown before id found → is_none (reply_to_stop rows found) ≡ true → Shown (Stopped id ∷ before) id (row_after (key_for id) (stop_rows rows found) found)
stopped_now rows id before None h free = absurd (not_so free)
stopped_now rows id before (Some row) h free =
    let P : Change → Type 0 = λ r. Shown (Stopped id ∷ before) id (row_after (key_for id) (stop_rows rows (Some r)) (Some r)) in
    let kept = action_row id h.0 h.1 in
    let new = change.Action id (stopped_text (action_text (stands h.0 h.1))) (sha256 (action_text h.0)) in
    let Q : Bool → Type 0 = λ b. Shown (Stopped id ∷ before) id (cond b (Some new) (Some kept)) in
    let put : Q true = (
      h.0,
      true,
      cons_tail (Stopped id) before (Issued h.0) h.2,
      h.3,
      ((λ is. cons_head (Stopped id) before), (λ has. refl)),
      ap (λ t. change.Action id t (sha256 (action_text h.0))) (stops_text (stands h.0 h.1)),
    ) in
    subst P (sym h.5) (subst Q (sym (same_itself (key_for id))) put)

other_stopped : (rows : List Change) (id other : ℕ) (before : List Entry) (found old : Option Change) → same_key (key_for id) (key_for other) ≡ false → Shown before other found → row_after (key_for id) (stop_rows rows found) old ≡ old
other_stopped rows id other before None old apart h = refl
other_stopped rows id other before (Some row) old apart h =
    let P : Change → Type 0 = λ r. row_after (key_for id) (stop_rows rows (Some r)) old ≡ old in
    let new = change.Action other (stopped_text (action_text (stands h.0 h.1))) (sha256 (action_text h.0)) in
    let put : P (action_row other h.0 h.1) = ap (λ b. cond b (Some new) old) apart in
    subst P (sym h.5) put

stopped : (limits : Limits) (other : ℕ) (before : List Entry) (id : ℕ) → ((n : ℕ) → Shown before n (action_at n (view before))) → is_none (reply_to limits (view before) (Stopped other)) ≡ true
    → Shown (Stopped other ∷ before) id (row_after (key_for id) (puts (view before) (Stopped other)) (action_at id (view before)))
stopped limits other before id h free =
    let rows = view before in
    elim (same_key (key_for id) (key_for other)) as (λ b. same_key (key_for id) (key_for other) ≡ b → Shown (Stopped other ∷ before) id (row_after (key_for id) (puts rows (Stopped other)) (action_at id rows))) [
      | true ↦ λ e.
          let same : id ≡ other = ap (λ k. k.number) (same_exact (key_for id) (key_for other) e) in
          let P : ℕ → Type 0 = λ n. Shown (Stopped other ∷ before) n (row_after (key_for n) (puts rows (Stopped other)) (action_at n rows)) in
          subst P (sym same) (stopped_now rows other before (action_at other rows) (h other) free)
      | false ↦ λ e.
          subst (Shown (Stopped other ∷ before) id) (sym (other_stopped rows id other before (action_at other rows) (action_at id rows) e (h other)))
          (lifted id (Stopped other) before (action_at id rows) (λ action is same. stop_or_action other action is) (λ is. other_key (key_for id) (key_for other) e (ap key_for (sym (same_stop other id is)))) (h id))
    ] refl

-- ---- all of them

results_kept : (id : ℕ) (report : Report) (rows : List ReportRow) (old : Option Change) → row_after (key_for id) (map (result_of report) rows) old ≡ old
results_kept id report [] old = refl
results_kept id report (row ∷ rows) old = results_kept id report rows old

shown : (limits : Limits) (entry : Entry) (before : List Entry) (id : ℕ) → ((n : ℕ) → Shown before n (action_at n (view before))) → IsEntry entry → is_none (reply_to limits (view before) entry) ≡ true
    → Shown (entry ∷ before) id (row_after (key_for id) (puts (view before) entry) (action_at id (view before)))
shown limits (Published site) before id h is free =
    lifted id (Published site) before (action_at id (view before)) (λ action e same. site_or_action site action e) (λ e. site_or_stop site id e) (h id)
shown limits (Issued action) before id h is free = issued limits action before id h free is.1
shown limits (Stopped other) before id h is free = stopped limits other before id h free
shown limits (Filed bytes) before id h is free =
    lifted id (Filed bytes) before (action_at id (view before)) (λ action e same. file_or_action bytes action e) (λ e. file_or_stop bytes id e) (h id)
shown limits (Reported report) before id h is free =
    subst (Shown (Reported report ∷ before) id) (sym (results_kept id report (filter (has_later (view before) report) report.rows) (action_at id (view before))))
    (lifted id (Reported report) before (action_at id (view before)) (λ action e same. report_or_action report action e) (λ e. report_or_stop report id e) (h id))

pub kept : (accepted : List Entry) → AreAccepted accepted → (id : ℕ) → Shown accepted id (action_at id (view accepted))
kept [] are id = ((λ action has same. in_nothing (Issued action) has), (λ has. in_nothing (Stopped id) has))
kept (entry ∷ before) are id =
    subst (Shown (entry ∷ before) id) (sym (row_at-put_all (key_for id) (puts (view before) entry) (view before)))
    (shown are.1.0 entry before id (kept before are.2) (entry_of are.0.0 entry are.0.1) are.1.1)

pub actions_shown : (accepted : List Entry) (id : ℕ) → AreAccepted accepted → ShowsAction accepted id (action_at id (view accepted))
actions_shown accepted id are = shows accepted id (action_at id (view accepted)) (kept accepted are id)
