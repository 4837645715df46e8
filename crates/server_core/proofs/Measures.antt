-- The text of `actionsite` is never too long.
use Rattle.std.proofs.Common.{◌≡◌, ◌≢◌, ℕ, ◌+◌, ◌<◌, ◌≤◌, nat_le, nat_lt, List, [], ◌∷◌, ◌++◌, Bool, true, false, cond, Some, None, is_none, length, filter, map, refl, sym, ap, ◌∙◌, subst, arith}
use Rattle.std.specs.Prelude.{All}
use Rattle.std.specs.List.{AllByRecursion}
use Rattle.std.specs.declared.option.Option.{Option}
use Rattle.std.proofs.lemmas.Bool.Decides.{nat_tests}
use Rattle.std.proofs.lemmas.List.Elements.{All-head, All-tail, filter_map-append}
use Rattle.sha2.specs.Sha256.{sha256}
use Rattle.fix_site.specs.declared.action.Action.{Action}
use Rattle.fix_site.specs.Actions.{action_text}
use Rattle.fix_site.specs.Sites.{site_text}
use Rattle.report_text.specs.declared.report.Report.{Report}
use Rattle.report_text.specs.declared.report_row.ReportRow.{ReportRow}
use Rattle.report_text.specs.Reports.{report_text}
use Rattle.desk_keep.specs.declared.change.Change.{Change}
use Rattle.desk_keep.specs.declared.change.Change.TheVariants as change
use Rattle.desk_keep.specs.Forms.{Fits}
use Rattle.desk_keep.specs.Keys.{Key, key_of}
use Rattle.desk_keep.specs.Tables.{AreRows, put, put_all, row_at, rows_above, rows_below}
use Rattle.desk_keep.proofs.Putting.{AreRows-put, around, found_key, split}
use Rattle.server_core.specs.declared.limits.Limits.{Limits}
use Rattle.server_text.specs.declared.reply.Reply.TheVariants.{Full}
use Rattle.server_text.specs.ActionStates.{stopped_text}
use Rattle.server_text.specs.Actionsite.{longest_actionsite}
use Rattle.server_core.specs.CallAnswers.{AreAccepted}
use Rattle.server_text.specs.Entries.{Entry, Filed, Issued, Published, Reported, Stopped}
use Rattle.server_text.specs.TextParts.{most_bytes}
use Rattle.server_core.specs.Replies.{full_if, full_of_actions, full_version, reply_to, reply_to_action, reply_to_stop}
use Rattle.server_text.specs.ToldRows.{action_texts, text_in}
use Rattle.server_core.specs.AcceptedTables.{action_at, has_later, next_version_row, puts, result_of, view}
use Rattle.server_core.proofs.Accepting.{IsEntry, entry_of, first_two, not_so, puts_fit, tables_are_rows}
use Rattle.server_text.proofs.ActionTexts.{stops_text}
use Rattle.server_text.proofs.ActionsiteBytes.{longest, most_of-append}
use Rattle.server_core.proofs.KeptActions.{Shown, action_row, kept, key_for, stands, stop_rows}

-- the bytes of the actions of rows, each stopped
abbrev measure : List Change → ℕ
measure rows = most_bytes (action_texts rows)

-- those of the row of a key, if there is one
abbrev of_found : Option Change → ℕ
of_found None = 0
of_found (Some row) = measure (row ∷ [])

measure-append : (rows more : List Change) → measure (rows ++ more) ≡ measure rows + measure more
measure-append rows more = ap most_bytes (filter_map-append text_in rows more) ∙ most_of-append (action_texts rows) (action_texts more)

measure-cons : (row : Change) (rows : List Change) → measure (row ∷ rows) ≡ measure (row ∷ []) + measure rows
measure-cons row rows = measure-append (row ∷ []) rows

measure_around : (found : Option Change) (before behind : List Change) → measure (around found before behind) ≡ measure before + (of_found found + measure behind)
measure_around None before behind = let e = measure-append before behind in omega (arith, e)
measure_around (Some row) before behind = measure-append before (row ∷ behind) ∙ ap (λ n. measure before + n) (measure-cons row behind)

swapped : (a b c d e f : ℕ) → a ≡ b + (c + d) → e ≡ b + (f + d) → a + f ≡ e + c
swapped a b c d e f h k = omega (arith, h, k)

-- a row is put in the place of the one of its key
measured_put : (row : Change) (rows : List Change) → AreRows rows → measure (put row rows) + of_found (row_at (key_of row) rows) ≡ measure rows + measure (row ∷ [])
measured_put row rows are =
    let below = rows_below (key_of row) rows in
    let above = rows_above (key_of row) rows in
    let found = row_at (key_of row) rows in
    let new : measure (put row rows) ≡ measure below + (measure (row ∷ []) + measure above) = measure_around (Some row) below above in
    let old : measure rows ≡ measure below + (of_found found + measure above) = ap measure (split (key_of row) rows are.ascending) ∙ measure_around found below above in
    swapped (measure (put row rows)) (measure below) (measure (row ∷ [])) (measure above) (measure rows) (of_found found) new old

-- ---- rows of other tables

abbrev Other : Change → Type 0
Other row = (key_of row).table ≢ 1

other_none : (row : Change) → Other row → measure (row ∷ []) ≡ 0
other_none (change.Action id text digest) other = absurd (other refl)
other_none (change.Site name version text) other = refl
other_none (change.File digest bytes) other = refl
other_none (change.Computer name) other = refl
other_none (change.Report computer seq digest) other = refl
other_none (change.Result result) other = refl

found_none : (row : Change) (rows : List Change) (found : Option Change) → Other row → row_at (key_of row) rows ≡ found → of_found found ≡ 0
found_none row rows None other e = refl
found_none row rows (Some old) other e =
    let P : Key → Type 0 = λ k. k.table ≢ 1 in
    other_none old (subst P (sym (found_key (key_of row) rows old e)) other)

other_put : (row : Change) (rows : List Change) → Other row → AreRows rows → measure (put row rows) ≡ measure rows
other_put row rows other are =
    let all = measured_put row rows are in
    let mine = other_none row other in
    let old = found_none row rows (row_at (key_of row) rows) other refl in
    omega (arith, all, mine, old)

others_put : (batch rows : List Change) → AllByRecursion Other batch → All Fits batch → AreRows rows → measure (put_all batch rows) ≡ measure rows
others_put [] rows other fit are = refl
others_put (row ∷ batch) rows other fit are =
    others_put batch (put row rows) other.1 (All-tail Fits row batch fit) (AreRows-put row rows (All-head Fits row batch fit) are) ∙ other_put row rows other.0 are

-- ---- an action that is issued

not_met : (most n : ℕ) → is_none (full_if (nat_lt most n) most) ≡ true → n ≤ most
not_met most n =
    elim (nat_lt most n) as (λ b. nat_lt most n ≡ b → is_none (full_if b most) ≡ true → n ≤ most) [
      | true ↦ λ e h. absurd (not_so h)
      | false ↦ λ e h. grind (arith, nat_tests)
    ] refl

short_with : (limits : Limits) (rows : List Change) (text : List ℕ) → is_none (full_of_actions limits rows text) ≡ true → longest_actionsite (text ∷ action_texts rows) ≤ 4194304
short_with limits rows text h = not_met 4194304 (longest_actionsite (text ∷ action_texts rows)) (first_two _ (full_if (nat_lt 4194304 (longest_actionsite (text ∷ action_texts rows))) 4194304) h).1

act_short : (limits : Limits) (rows : List Change) (action : Action) (found : Option Change) → is_none (reply_to_action limits rows action found) ≡ true → longest_actionsite (action_text action ∷ action_texts rows) ≤ 4194304
act_short limits rows action None h = short_with limits rows (action_text action) (first_two (full_of_actions limits rows (action_text action)) (full_version rows) h).0
act_short limits rows action (Some (change.Action id text digest)) h = absurd (not_so h)
act_short limits rows action (Some (change.Site name version text)) h = short_with limits rows (action_text action) (first_two (full_of_actions limits rows (action_text action)) (full_version rows) h).0
act_short limits rows action (Some (change.File digest bytes)) h = short_with limits rows (action_text action) (first_two (full_of_actions limits rows (action_text action)) (full_version rows) h).0
act_short limits rows action (Some (change.Computer name)) h = short_with limits rows (action_text action) (first_two (full_of_actions limits rows (action_text action)) (full_version rows) h).0
act_short limits rows action (Some (change.Report computer seq digest)) h = short_with limits rows (action_text action) (first_two (full_of_actions limits rows (action_text action)) (full_version rows) h).0
act_short limits rows action (Some (change.Result result)) h = short_with limits rows (action_text action) (first_two (full_of_actions limits rows (action_text action)) (full_version rows) h).0

issued_short : (limits : Limits) (action : Action) (rows : List Change) → AreRows rows → All Fits (puts rows (Issued action)) → is_none (reply_to limits rows (Issued action)) ≡ true → 105 + measure (put_all (puts rows (Issued action)) rows) ≤ 4194304
issued_short limits action rows are fit free =
    let row = change.Action action.id (action_text action) (sha256 (action_text action)) in
    let next = next_version_row rows in
    let held = put row rows in
    let kept_in = AreRows-put row rows (All-head Fits row (next ∷ []) fit) are in
    let after : measure (put next held) ≡ measure held = other_put next held (λ e. cc) kept_in in
    let all : measure held + of_found (row_at (key_of row) rows) ≡ measure rows + measure (row ∷ []) = measured_put row rows are in
    let one : longest_actionsite (action_text action ∷ action_texts rows) ≡ 105 + (length (stopped_text (action_text action)) + measure rows) = longest (action_text action ∷ action_texts rows) in
    let most : longest_actionsite (action_text action ∷ action_texts rows) ≤ 4194304 = act_short limits rows action (action_at action.id rows) free in
    let size : measure (row ∷ []) ≡ length (stopped_text (action_text action)) + 0 = refl in
    omega (arith, after, all, one, most, size)

-- ---- an action that is stopped

stopped_same : (limits : Limits) (id : ℕ) (before : List Entry) (rows : List Change) (found : Option Change) → Shown before id found → row_at (key_for id) rows ≡ found → AreRows rows → is_none (reply_to_stop rows found) ≡ true
    → All Fits (stop_rows rows found) → measure (put_all (stop_rows rows found) rows) ≡ measure rows
stopped_same limits id before rows None h at are free fit = absurd (not_so free)
stopped_same limits id before rows (Some row) h at are free fit =
    let P : Change → Type 0 = λ r. row_at (key_for id) rows ≡ Some r → All Fits (stop_rows rows (Some r)) → measure (put_all (stop_rows rows (Some r)) rows) ≡ measure rows in
    subst P (sym h.5) (stopped_row_same id rows h.0 h.1 are) at fit
  where
    stopped_row_same : (id : ℕ) (rows : List Change) (action : Action) (stopped : Bool) → AreRows rows → row_at (key_for id) rows ≡ Some (action_row id action stopped) → All Fits (stop_rows rows (Some (action_row id action stopped)))
        → measure (put_all (stop_rows rows (Some (action_row id action stopped))) rows) ≡ measure rows
    stopped_row_same id rows action stopped are at fit =
        let text = action_text (stands action stopped) in
        let new = change.Action id (stopped_text text) (sha256 (action_text action)) in
        let next = next_version_row rows in
        let held = put new rows in
        let after : measure (put next held) ≡ measure held = other_put next held (λ e. cc) (AreRows-put new rows (All-head Fits new (next ∷ []) fit) are) in
        let all : measure held + of_found (row_at (key_for id) rows) ≡ measure rows + measure (new ∷ []) = measured_put new rows are in
        let old : of_found (row_at (key_for id) rows) ≡ length (stopped_text text) + 0 = ap of_found at in
        let again : length (stopped_text (stopped_text text)) ≡ length (stopped_text text) =
        ap length (ap stopped_text (stops_text (stands action stopped)) ∙ stops_text (stands action true) ∙ sym (stops_text (stands action stopped))) in
        let size : measure (new ∷ []) ≡ length (stopped_text (stopped_text text)) + 0 = refl in
        omega (arith, after, all, old, again, size)

-- ---- all of them

results_other : (report : Report) (rows : List ReportRow) → AllByRecursion Other (map (result_of report) rows)
results_other report [] = tt
results_other report (row ∷ rows) = ((λ e. cc), results_other report rows)

measured_after : (limits : Limits) (entry : Entry) (before : List Entry) → AreAccepted before → IsEntry entry → is_none (reply_to limits (view before) entry) ≡ true → 105 + measure (view before) ≤ 4194304 → 105 + measure (put_all (puts (view before) entry) (view before)) ≤ 4194304
measured_after limits entry before are is free h = step entry is free
  where
    ordered : AreRows (view before)
    ordered = tables_are_rows before are

    same : (batch : List Change) → AllByRecursion Other batch → All Fits batch → 105 + measure (put_all batch (view before)) ≤ 4194304
    same batch other fit = subst (λ n. 105 + n ≤ 4194304) (sym (others_put batch (view before) other fit ordered)) h

    step : (entry : Entry) → IsEntry entry → is_none (reply_to limits (view before) entry) ≡ true → 105 + measure (put_all (puts (view before) entry) (view before)) ≤ 4194304
    step (Published site) is free = same (puts (view before) (Published site)) ((λ e. cc), tt) (puts_fit limits (view before) (Published site) is ordered free)
    step (Issued action) is free = issued_short limits action (view before) ordered (puts_fit limits (view before) (Issued action) is ordered free) free
    step (Stopped id) is free =
        subst (λ n. 105 + n ≤ 4194304)
        (sym (stopped_same limits id before (view before) (action_at id (view before)) (kept before are id) refl ordered free (puts_fit limits (view before) (Stopped id) is ordered free))) h
    step (Filed bytes) is free = same (puts (view before) (Filed bytes)) ((λ e. cc), tt) (puts_fit limits (view before) (Filed bytes) is ordered free)
    step (Reported report) is free =
        same (puts (view before) (Reported report)) ((λ e. cc), ((λ e. cc), results_other report (filter (has_later (view before) report) report.rows))) (puts_fit limits (view before) (Reported report) is ordered free)

measured_short : (accepted : List Entry) → AreAccepted accepted → 105 + measure (view accepted) ≤ 4194304
measured_short [] are = omega arith
measured_short (entry ∷ before) are = measured_after are.1.0 entry before are.2 (entry_of are.0.0 entry are.0.1) are.1.1 (measured_short before are.2)

pub actionsite_short : (accepted : List Entry) → AreAccepted accepted → longest_actionsite (action_texts (view accepted)) ≤ 4194304
actionsite_short accepted are = subst (λ n. n ≤ 4194304) (sym (longest (action_texts (view accepted)))) (measured_short accepted are)
