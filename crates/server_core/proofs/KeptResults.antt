-- The result that is kept of a computer and an action.
use Rattle.std.proofs.Common.{◌≡◌, ℕ, ◌<◌, ◌≤◌, nat_lt, ◌⊎◌, inl, inr, List, [], ◌∷◌, ◌++◌, Bool, true, false, cond, Some, None, filter, map, refl, sym, ap, ◌∙◌, subst, arith}
use Rattle.std.specs.Prelude.{Contains}
use Rattle.std.specs.declared.option.Option.{Option}
use Rattle.std.proofs.lemmas.Bool.Decides.{nat_tests}
use Rattle.fix_site.specs.declared.site.Site.{Site}
use Rattle.fix_site.specs.declared.action.Action.{Action}
use Rattle.report_text.specs.declared.report.Report.{Report}
use Rattle.report_text.specs.declared.report_row.ReportRow.{ReportRow}
use Rattle.desk_keep.specs.declared.change.Change.{Change}
use Rattle.desk_keep.specs.declared.change.Change.TheVariants as change
use Rattle.desk_keep.specs.declared.find.Find.TheVariants as find
use Rattle.desk_keep.specs.Keys.{Key, asked_key, key_of, same_key}
use Rattle.desk_keep.proofs.KeyOrder.{same_exact}
use Rattle.server_text.specs.Entries.{Entry, Filed, Issued, Published, Reported, Stopped}
use Rattle.server_core.specs.AcceptedTables.{action_at, has_later, is_later, next_version_row, puts, result_at, result_of, stopped_row, view}
use Rattle.server_core.specs.TableViews.{IsReportOf, IsRowOf, ShowsResult}
use Rattle.server_core.proofs.KeptReports.{not_action, not_file, not_site, not_stop, same_report}
use Rattle.server_core.proofs.RowsAfter.{cons_head, cons_tail, in_cons, in_nothing, other_key, row_after, row_at-put_all}

abbrev pub key_for : List ℕ → ℕ → Key
key_for computer action = asked_key (find.Result computer action)

-- ---- entries that have no row of the computer and the action

abbrev Apart : List ℕ → ℕ → Entry → Type 0
Apart computer action entry = (report : Report) (row : ReportRow) → entry ≡ Reported report → report.computer ≡ computer → Contains report.rows row → ¬ (row.action ≡ action)

-- the report of a row is this entry, or was accepted before
row_cases : (computer : List ℕ) (action : ℕ) (entry : Entry) (before : List Entry) (report : Report) (row : ReportRow) → IsRowOf (entry ∷ before) computer action report row → (entry ≡ Reported report) ⊎ IsRowOf before computer action report row
row_cases computer action entry before report row is =
    elim (in_cons entry before (Reported report) is.0.0) as (λ c. (entry ≡ Reported report) ⊎ IsRowOf before computer action report row) [
      | inl e ↦ inl e
      | inr rest ↦ inr ((rest, is.0.1), is.1, is.2)
    ]

row_more : (computer : List ℕ) (action : ℕ) (entry : Entry) (before : List Entry) (report : Report) (row : ReportRow) → IsRowOf before computer action report row → IsRowOf (entry ∷ before) computer action report row
row_more computer action entry before report row is = ((cons_tail entry before (Reported report) is.0.0, is.0.1), is.1, is.2)

lifted : (computer : List ℕ) (action : ℕ) (entry : Entry) (before : List Entry) (result : Option Change) → Apart computer action entry → ShowsResult before computer action result → ShowsResult (entry ∷ before) computer action result
lifted computer action entry before None apart h = λ report row is.
    elim (row_cases computer action entry before report row is) as (λ c. ⊥) [ inl e ↦ apart report row e is.0.1 is.1 is.2 | inr rest ↦ h report row rest ]
lifted computer action entry before (Some result) apart h = (
  h.0,
  h.1,
  row_more computer action entry before h.0 h.1 h.2,
  (λ other own is. elim (row_cases computer action entry before other own is) as (λ c. other.seq ≤ h.0.seq) [
    | inl e ↦ absurd (apart other own e is.0.1 is.1 is.2)
    | inr rest ↦ h.3 other own rest
  ]),
  h.4,
)

stopped : (computer : List ℕ) (action : ℕ) (found : Option Change) (rows : List Change) (old : Option Change) → row_after (key_for computer action) (stopped_row found ++ next_version_row rows ∷ []) old ≡ old
stopped computer action None rows old = refl
stopped computer action (Some (change.Action id text digest)) rows old = refl
stopped computer action (Some (change.Site name version text)) rows old = refl
stopped computer action (Some (change.File digest bytes)) rows old = refl
stopped computer action (Some (change.Computer name)) rows old = refl
stopped computer action (Some (change.Report name seq digest)) rows old = refl
stopped computer action (Some (change.Result result)) rows old = refl

-- ---- what the rows of a report put

-- rows of another computer put nothing there
other_computer : (computer : List ℕ) (action : ℕ) (report : Report) → (report.computer ≡ computer → ⊥) → (xs : List ReportRow) (old : Option Change) → row_after (key_for computer action) (map (result_of report) xs) old ≡ old
other_computer computer action report differ [] old = refl
other_computer computer action report differ (x ∷ xs) old =
    let key = key_for computer action in
    let other = key_for report.computer x.action in
    elim (same_key key other) as (λ b. same_key key other ≡ b → row_after key (map (result_of report) xs) (cond b (Some (result_of report x)) old) ≡ old) [
      | true ↦ λ e. absurd (differ (sym (ap (λ k. k.name) (same_exact key other e))))
      | false ↦ λ e. other_computer computer action report differ xs old
    ] refl

-- Nothing is put there, and no row of the action passes; or one that passes is.
abbrev Puts : ℕ → Report → (ReportRow → Bool) → List ReportRow → Option Change → Option Change → Type 0
Puts action report p xs old new =
    ((new ≡ old) × ((x : ReportRow) → Contains xs x → x.action ≡ action → p x ≡ false))
    ⊎ ((y : ReportRow) × Contains xs y × (y.action ≡ action) × (p y ≡ true) × (new ≡ Some (result_of report y)))

-- one row more at the front, of which nothing is put
one_less : (action : ℕ) (report : Report) (p : ReportRow → Bool) (x : ReportRow) (xs : List ReportRow) (old new : Option Change) → (x.action ≡ action → p x ≡ false) → Puts action report p xs old new → Puts action report p (x ∷ xs) old new
one_less action report p x xs old new fails (inl none) =
    inl (
      none.0,
      (λ z in' same. elim (in_cons x xs z in') as (λ c. p z ≡ false) [
        | inl e ↦ ap p (sym e) ∙ fails (ap (λ r. r.action) e ∙ same)
        | inr rest ↦ none.1 z rest same
      ]),
    )
one_less action report p x xs old new fails (inr one) = inr (one.0, cons_tail x xs one.0 one.1, one.2, one.3, one.4)

-- one row more at the front, which is put
one_more : (action : ℕ) (report : Report) (p : ReportRow → Bool) (x : ReportRow) (xs : List ReportRow) (old new : Option Change) → x.action ≡ action → p x ≡ true → Puts action report p xs (Some (result_of report x)) new → Puts action report p (x ∷ xs) old new
one_more action report p x xs old new same passes (inl none) = inr (x, cons_head x xs, same, passes, none.0)
one_more action report p x xs old new same passes (inr one) = inr (one.0, cons_tail x xs one.0 one.1, one.2, one.3, one.4)

no_longer : (b : Bool) → b ≡ true → b ≡ false → ⊥
no_longer b one other = cc

rows_put : (computer : List ℕ) (action : ℕ) (report : Report) (p : ReportRow → Bool) → report.computer ≡ computer → (xs : List ReportRow) (old : Option Change)
    → Puts action report p xs old (row_after (key_for computer action) (map (result_of report) (filter p xs)) old)
rows_put computer action report p is [] old = inl (refl, λ x in' same. absurd (in_nothing x in'))
rows_put computer action report p is (x ∷ xs) old =
    let key = key_for computer action in
    let other = key_for report.computer x.action in
    elim (p x) as (λ b. p x ≡ b → Puts action report p (x ∷ xs) old (row_after key (map (result_of report) (cond b (x ∷ filter p xs) (filter p xs))) old)) [
      | true ↦ λ passes.
          elim (same_key key other) as (λ b. same_key key other ≡ b → Puts action report p (x ∷ xs) old (row_after key (map (result_of report) (filter p xs)) (cond b (Some (result_of report x)) old))) [
            | true ↦ λ e.
                one_more action report p x xs old (row_after key (map (result_of report) (filter p xs)) (Some (result_of report x)))
                (sym (ap (λ k. k.number) (same_exact key other e))) passes (rows_put computer action report p is xs (Some (result_of report x)))
            | false ↦ λ e.
                one_less action report p x xs old (row_after key (map (result_of report) (filter p xs)) old)
                (λ same. absurd (other_key key other e (λ i. key_for (sym is i) (sym same i)))) (rows_put computer action report p is xs old)
          ] refl
      | false ↦ λ fails.
          one_less action report p x xs old (row_after key (map (result_of report) (filter p xs)) old) (λ same. fails) (rows_put computer action report p is xs old)
    ] refl

-- ---- a report

-- whether a row of the action is later is whether the report is later than what is kept
later_there : (computer : List ℕ) (action : ℕ) (rows : List Change) (report : Report) (row : ReportRow) → report.computer ≡ computer → row.action ≡ action → has_later rows report row ≡ is_later report.seq (result_at computer action rows)
later_there computer action rows report row is same = λ i. is_later report.seq (result_at (is i) (same i) rows)

kept_seq : (seq : ℕ) (report : Report) (row : ReportRow) (result : Change) → result ≡ result_of report row → is_later seq (Some result) ≡ nat_lt report.seq seq
kept_seq seq report row result is = ap (λ r. is_later seq (Some r)) is

is_less : (a b : ℕ) → nat_lt a b ≡ true → a < b
is_less a b e = grind (arith, nat_tests)

is_not_less : (a b : ℕ) → nat_lt a b ≡ false → b ≤ a
is_not_less a b e = grind (arith, nat_tests)

-- no row of the report is later
nothing_put : (computer : List ℕ) (action : ℕ) (report : Report) (before : List Entry) (rows : List Change) (old : Option Change) → report.computer ≡ computer → result_at computer action rows ≡ old
    → ((x : ReportRow) → Contains report.rows x → x.action ≡ action → has_later rows report x ≡ false) → ShowsResult before computer action old → ShowsResult (Reported report ∷ before) computer action old
nothing_put computer action report before rows None is found none h = λ other own row.
    elim (row_cases computer action (Reported report) before other own row) as (λ c. ⊥) [
      | inl e ↦
          let one = same_report report other e in
          let in' : Contains report.rows own = subst (λ r. Contains r.rows own) (sym one) row.1 in
          no_longer (has_later rows report own) (later_there computer action rows report own is row.2 ∙ ap (is_later report.seq) found) (none own in' row.2)
      | inr rest ↦ h other own rest
    ]
nothing_put computer action report before rows (Some result) is found none h = (
  h.0,
  h.1,
  row_more computer action (Reported report) before h.0 h.1 h.2,
  (λ other own row. elim (row_cases computer action (Reported report) before other own row) as (λ c. other.seq ≤ h.0.seq) [
    | inl e ↦
        let one = same_report report other e in
        let in' : Contains report.rows own = subst (λ r. Contains r.rows own) (sym one) row.1 in
        let less : report.seq ≤ h.0.seq = is_not_less h.0.seq report.seq
        (sym (kept_seq report.seq h.0 h.1 result h.4) ∙ sym (later_there computer action rows report own is row.2 ∙ ap (is_later report.seq) found) ∙ none own in' row.2) in
        subst (λ r. r.seq ≤ h.0.seq) one less
    | inr rest ↦ h.3 other own rest
  ]),
  h.4,
)

-- a report is not below those before it, where it is later than what is kept of them
not_below : (computer : List ℕ) (action : ℕ) (report : Report) (before : List Entry) (old : Option Change) → is_later report.seq old ≡ true → ShowsResult before computer action old
    → (other : Report) (own : ReportRow) → IsRowOf before computer action other own → other.seq ≤ report.seq
not_below computer action report before None later h other own row = absurd (h other own row)
not_below computer action report before (Some result) later h other own row =
    let above : h.0.seq < report.seq = is_less h.0.seq report.seq (sym (kept_seq report.seq h.0 h.1 result h.4) ∙ later) in
    let below : other.seq ≤ h.0.seq = h.3 other own row in
    omega arith

one_put : (computer : List ℕ) (action : ℕ) (report : Report) (before : List Entry) (rows : List Change) (old : Option Change) (y : ReportRow) → report.computer ≡ computer → result_at computer action rows ≡ old
    → Contains report.rows y → y.action ≡ action → has_later rows report y ≡ true → ShowsResult before computer action old → ShowsResult (Reported report ∷ before) computer action (Some (result_of report y))
one_put computer action report before rows old y is found in' same passes h = (
  report,
  y,
  ((cons_head (Reported report) before, is), in', same),
  (λ other own row. elim (row_cases computer action (Reported report) before other own row) as (λ c. other.seq ≤ report.seq) [
    | inl e ↦
        let even : other.seq ≡ report.seq = ap (λ r. r.seq) (sym (same_report report other e)) in
        omega arith
    | inr rest ↦ not_below computer action report before old (sym (later_there computer action rows report y is same ∙ ap (is_later report.seq) found) ∙ passes) h other own rest
  ]),
  refl,
)

from_puts : (computer : List ℕ) (action : ℕ) (report : Report) (before : List Entry) (rows : List Change) (new : Option Change) → report.computer ≡ computer
    → Puts action report (has_later rows report) report.rows (result_at computer action rows) new → ShowsResult before computer action (result_at computer action rows) → ShowsResult (Reported report ∷ before) computer action new
from_puts computer action report before rows new is (inl none) h =
    subst (ShowsResult (Reported report ∷ before) computer action) (sym none.0) (nothing_put computer action report before rows (result_at computer action rows) is refl none.1 h)
from_puts computer action report before rows new is (inr one) h =
    subst (ShowsResult (Reported report ∷ before) computer action) (sym one.4) (one_put computer action report before rows (result_at computer action rows) one.0 is refl one.1 one.2 one.3 h)

reported : (computer : List ℕ) (action : ℕ) (report : Report) (before : List Entry) (rows : List Change) → ShowsResult before computer action (result_at computer action rows)
    → ShowsResult (Reported report ∷ before) computer action (row_after (key_for computer action) (map (result_of report) (filter (has_later rows report) report.rows)) (result_at computer action rows))
reported computer action report before rows h =
    let one = asked_key (find.Computer report.computer) in
    let other = asked_key (find.Computer computer) in
    let old = result_at computer action rows in
    let new = row_after (key_for computer action) (map (result_of report) (filter (has_later rows report) report.rows)) old in
    elim (same_key one other) as (λ b. same_key one other ≡ b → ShowsResult (Reported report ∷ before) computer action new) [
      | true ↦ λ e.
          let is : report.computer ≡ computer = ap (λ k. k.name) (same_exact one other e) in
          from_puts computer action report before rows new is (rows_put computer action report (has_later rows report) is report.rows old) h
      | false ↦ λ e.
          let differ : report.computer ≡ computer → ⊥ = λ is. other_key one other e (ap (λ c. asked_key (find.Computer c)) is) in
          subst (ShowsResult (Reported report ∷ before) computer action) (sym (other_computer computer action report differ (filter (has_later rows report) report.rows) old))
          (lifted computer action (Reported report) before old
          (λ own row is c in' same. differ (ap (λ r. r.computer) (same_report report own is) ∙ c)) h)
    ] refl

shown : (entry : Entry) (before : List Entry) (computer : List ℕ) (action : ℕ) → ShowsResult before computer action (result_at computer action (view before))
    → ShowsResult (entry ∷ before) computer action (row_after (key_for computer action) (puts (view before) entry) (result_at computer action (view before)))
shown (Published site) before computer action h = lifted computer action (Published site) before (result_at computer action (view before)) (λ r row e c in' s. not_site site r e) h
shown (Issued order) before computer action h = lifted computer action (Issued order) before (result_at computer action (view before)) (λ r row e c in' s. not_action order r e) h
shown (Stopped id) before computer action h =
    subst (ShowsResult (Stopped id ∷ before) computer action) (sym (stopped computer action (action_at id (view before)) (view before) (result_at computer action (view before))))
    (lifted computer action (Stopped id) before (result_at computer action (view before)) (λ r row e c in' s. not_stop id r e) h)
shown (Filed bytes) before computer action h = lifted computer action (Filed bytes) before (result_at computer action (view before)) (λ r row e c in' s. not_file bytes r e) h
shown (Reported report) before computer action h = reported computer action report before (view before) h

pub results_shown : (accepted : List Entry) (computer : List ℕ) (action : ℕ) → ShowsResult accepted computer action (result_at computer action (view accepted))
results_shown [] computer action = λ report row is. in_nothing (Reported report) is.0.0
results_shown (entry ∷ before) computer action =
    subst (ShowsResult (entry ∷ before) computer action) (sym (row_at-put_all (key_for computer action) (puts (view before) entry) (view before)))
    (shown entry before computer action (results_shown before computer action))
