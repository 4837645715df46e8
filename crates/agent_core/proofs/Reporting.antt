-- The report that a turn makes: the last rows of the pending actions.
use Rattle.std.proofs.Common.{ℕ, zero, suc, ◌≡◌, ◌+◌, ◌*◌, ◌^◌, ◌<◌, ◌≤◌, ℤ, List, [], ◌∷◌, ◌++◌, length, length-append, map, take, drop, get_or, Bool, true, false, cond, ltb, Option, Some, None, refl, sym, ap, subst, ◌∙◌, arith}
use Rattle.std.specs.Prelude.{filter, flat_map, sum_by, min, All, IfSome, unwrap_or, ◌||◌, ◌&&◌}
use Rattle.std.specs.List.{list_any}
use Rattle.std.proofs.lemmas.Bool.{le-ltb, lt-ltb, ltb-true}
use Rattle.std.proofs.lemmas.Grind.{flat_map-append}
use Rattle.std.proofs.lemmas.List.{get_or-map, length-map, length-take, take-append-drop, take-append-le, take_all, take_more}
use Rattle.std.proofs.lemmas.List.Elements.{All-append, All-cons, All-head, All-nil, All-push, All-tail, All-take, All-weaker, filter-append}
use Rattle.std.proofs.lemmas.List.Filters.{length-filter_more}
use Rattle.std.proofs.lemmas.List.Quantifiers.{all_pairs_push}
use Rattle.std.proofs.lemmas.List.Sums.{sum_by-cons, sum_by_push}
use Rattle.act_rules.specs.declared.row.Outcome.{Outcome}
use Rattle.act_rules.specs.declared.row.Outcome.TheVariants.{Fixed, Failed, Interrupted}
use Rattle.act_rules.specs.declared.row.Row.{Row}
use Rattle.act_rules.specs.Rows.{HasMoments, last_row}
use Rattle.report_text.specs.declared.form.Form.TheVariants.{Two}
use Rattle.report_text.specs.declared.report.Report.{Report}
use Rattle.report_text.specs.declared.report_row.ReportRow.{ReportRow}
use Rattle.report_text.specs.ReportRows.{AreAscending, IsNoteAt, IsPlace, IsReportRow}
use Rattle.report_text.specs.Reports.{AreReportRows, IsReport}
use Rattle.agent_text.specs.SavedRows.{IsSavedAt, IsSavedRow}
use Rattle.agent_text.specs.declared.history.History.{History}
use Rattle.agent_text.specs.Histories.{AreHistories, IsHistory, PlainHistory, report_of_last, report_row, report_rows, reported_note, shown_history, with_reported}
use Rattle.agent_text.specs.MostBytes.{history_bytes, report_bytes}
use Rattle.agent_text.specs.SavedTexts.{AreOutbox, most_bytes}
use Rattle.agent_state.specs.Counting.{pending_count}
use Rattle.agent_state.specs.States.{State, can_report, next_report, with_report}
use Rattle.agent_state.proofs.Dropping.{seq_of}
use Rattle.agent_core.proofs.HistoryAt.{action_of, counted, is_pending}
use Rattle.agent_core.proofs.LastRows.{last_holds, last_is, last_number}
use Rattle.line_forms.proofs.Rising.{increasing_from_rises, Rises, rises_from_increasing, rises_head, rises_tail}

-- what is reported of a history where it is pending
abbrev told_of : PlainHistory → List ReportRow
told_of h = report_of_last h.action (last_row h.rows)

-- ---- the rows, one history after another
rows_append : (xs ys : List PlainHistory) → report_rows (xs ++ ys) ≡ report_rows xs ++ report_rows ys
rows_append xs ys = ap (flat_map told_of) (filter-append is_pending xs ys) ∙ flat_map-append told_of (filter is_pending xs) (filter is_pending ys)

pub one_told : (h : PlainHistory) (row : Row) → h.pending ≡ true → last_row h.rows ≡ Some row → report_rows (h ∷ []) ≡ report_row h.action row ∷ []
one_told h row pending last = ap (λ b. flat_map told_of (cond b (h ∷ []) [])) pending ∙ ap (λ o. report_of_last h.action o ++ []) last

pub one_empty : (h : PlainHistory) → last_row h.rows ≡ None → report_rows (h ∷ []) ≡ []
one_empty h none = by_pending h.pending
  where
    by_pending : (b : Bool) → flat_map told_of (cond b (h ∷ []) []) ≡ []
    by_pending true = ap (λ o. report_of_last h.action o ++ []) none
    by_pending false = refl

pub one_other : (h : PlainHistory) → h.pending ≡ false → report_rows (h ∷ []) ≡ []
one_other h other = ap (λ b. flat_map told_of (cond b (h ∷ []) [])) other

last_few : (action : ℕ) (o : Option Row) → length (report_of_last action o) ≤ 1
last_few action None = omega arith
last_few action (Some row) = omega arith

one_few : (h : PlainHistory) → length (report_rows (h ∷ [])) ≤ 1
one_few h = by_pending h.pending
  where
    by_pending : (b : Bool) → length (flat_map told_of (cond b (h ∷ []) [])) ≤ 1
    by_pending true = omega (arith, last_few h.action (last_row h.rows), length-append (told_of h) [])
    by_pending false = omega arith

-- ---- a loop that adds them
-- The rows so far are those of the first i histories, and at most 500.
pub record Adds (hs : List PlainHistory) (i : ℕ) (rows : List ReportRow) : Type 0 where
  pub are : rows ≡ report_rows (take i hs)
  pub few : length rows ≤ 500

pub adds_none : (hs : List PlainHistory) (rows : List ReportRow) → rows ≡ [] → Adds hs 0 rows
adds_none hs rows e = record { are = e; few = let count : length rows ≡ 0 = ap (length {A = ReportRow}) e in omega arith }

shown_at : (items : List History) (hs : List PlainHistory) (i : ℕ) (h : History) → map shown_history items ≡ hs → i < length items → h ≡ get_or items i h
    → (i < length hs) × (get_or hs i (shown_history h) ≡ shown_history h)
shown_at items hs i h view inside at =
    let count : length hs ≡ length items = ap (length {A = PlainHistory}) (sym view) ∙ length-map items shown_history in
    (omega arith, ap (λ l. get_or l i (shown_history h)) (sym view) ∙ get_or-map shown_history items i h (shown_history h) inside ∙ ap shown_history (sym at))

pub adds_one : (items : List History) (hs : List PlainHistory) (i : ℕ) (h : History) (old new : List ReportRow) → map shown_history items ≡ hs → i < length items → h ≡ get_or items i h → length old < 500
    → new ≡ old ++ report_rows (shown_history h ∷ []) → Adds hs i old → Adds hs (i + 1) new
adds_one items hs i h old new view inside at room is so_far =
    let there = shown_at items hs i h view inside at in
    let one = report_rows (shown_history h ∷ []) in
    let count : length new ≡ length old + length one = ap (length {A = ReportRow}) is ∙ length-append old one in
    record {
      are = is ∙ (λ t. so_far.are t ++ report_rows (sym there.1 t ∷ [])) ∙ sym (rows_append (take i hs) (get_or hs i (shown_history h) ∷ []))
          ∙ ap report_rows (sym (take_more hs i (shown_history h) there.0));
      few = omega (arith, count, room, one_few (shown_history h));
    }

pub adds_full : (hs : List PlainHistory) (i : ℕ) (rows : List ReportRow) → 500 ≤ length rows → Adds hs i rows → rows ≡ take 500 (report_rows hs)
adds_full hs i rows full so_far =
    let rest = report_rows (drop i hs) in
    let whole : report_rows hs ≡ rows ++ rest = ap report_rows (sym (take-append-drop i hs)) ∙ rows_append (take i hs) (drop i hs) ∙ ap (λ l. l ++ rest) (sym so_far.are) in
    sym (ap (take 500) whole ∙ take-append-le 500 rows rest full ∙ take_all 500 rows so_far.few)

pub adds_all : (items : List History) (hs : List PlainHistory) (i : ℕ) (rows : List ReportRow) → map shown_history items ≡ hs → length items ≤ i → Adds hs i rows → rows ≡ take 500 (report_rows hs)
adds_all items hs i rows view all so_far =
    let count : length hs ≡ length items = ap (length {A = PlainHistory}) (sym view) ∙ length-map items shown_history in
    let whole : rows ≡ report_rows hs = so_far.are ∙ ap report_rows (take_all i hs (omega arith)) in
    sym (ap (take 500) (sym whole) ∙ take_all 500 rows so_far.few)

-- ---- room for them
rows_few : (hs : List PlainHistory) → length (report_rows hs) ≤ length (filter is_pending hs)
rows_few [] = omega arith
rows_few (h ∷ hs) = by_pending h.pending (rows_few hs)
  where
    by_pending : (b : Bool) → length (report_rows hs) ≤ length (filter is_pending hs)
        → length (flat_map told_of (cond b (h ∷ filter is_pending hs) (filter is_pending hs))) ≤ length (cond b (h ∷ filter is_pending hs) (filter is_pending hs))
    by_pending true few = omega (arith, few, last_few h.action (last_row h.rows), length-append (told_of h) (report_rows hs))
    by_pending false few = few

-- there is room for that of a pending one
pub adds_room : (items : List History) (hs : List PlainHistory) (i room : ℕ) (h : History) (rows : List ReportRow) → map shown_history items ≡ hs → i < length items → h ≡ get_or items i h → length rows < 500
    → min 500 (pending_count hs) ≤ room → Adds hs i rows → h.pending ≡ true → length rows < room
adds_room items hs i room h rows view inside at few enough so_far pending =
    let there = shown_at items hs i h view inside at in
    let p : Bool = (get_or hs i (shown_history h)).pending in
    let is : p ≡ true = ap is_pending there.1 ∙ pending in
    let more : length (filter is_pending (take (i + 1) hs)) ≡ length (filter is_pending (take i hs)) + 1 =
    length-filter_more is_pending hs i (shown_history h) there.0 ∙ ap (λ b. length (filter is_pending (take i hs)) + cond b 1 0) is in
    let whole : length (filter is_pending (take (i + 1) hs)) + length (filter is_pending (drop (i + 1) hs)) ≡ length (filter is_pending hs) =
    sym (length-append (filter is_pending (take (i + 1) hs)) (filter is_pending (drop (i + 1) hs))) ∙ ap (length {A = PlainHistory}) (sym (filter-append is_pending (take (i + 1) hs) (drop (i + 1) hs)))
    ∙ ap (λ l. length (filter is_pending l)) (take-append-drop (i + 1) hs) in
    let now : length rows ≡ length (report_rows (take i hs)) = ap (length {A = ReportRow}) so_far.are in
    omega (arith, counted hs, rows_few (take i hs))

-- ---- whether there is one
told_some : (h : PlainHistory) → 0 < length h.rows → length (told_of h) ≡ 1
told_some h some = let last = last_is h.rows some in ap (λ o. length (report_of_last h.action o)) last.1

pub any_told : (hs : List PlainHistory) → All IsHistory hs → list_any is_pending hs ≡ ltb 0 (length (report_rows hs))
any_told [] good = refl
any_told (h ∷ hs) good = by_pending h.pending (any_told hs (All-tail IsHistory h hs good))
  where
    by_pending : (b : Bool) → list_any is_pending hs ≡ ltb 0 (length (report_rows hs))
        → (b || list_any is_pending hs) ≡ ltb 0 (length (flat_map told_of (cond b (h ∷ filter is_pending hs) (filter is_pending hs))))
    by_pending true e =
        let one : length (told_of h) ≡ 1 = told_some h (All-head IsHistory h hs good).rows.some in
        let rest = report_rows hs in
        sym (lt-ltb 0 (length (told_of h ++ rest)) (omega (arith, one, length-append (told_of h) rest)))
    by_pending false e = e

-- what a test of the histories of the code answers
pub any_shown : (items : List History) → list_any (λ (h : History). h.pending) items ≡ list_any is_pending (map shown_history items)
any_shown [] = refl
any_shown (h ∷ items) = ap (λ b. h.pending || b) (any_shown items)

-- ---- what they are
all_told : (P : ReportRow → Type 0) (hs : List PlainHistory) → All (λ h. All P (told_of h)) hs → All P (report_rows hs)
all_told P [] all = All-nil P
all_told P (h ∷ hs) all = by_pending h.pending (all_told P hs (All-tail (λ x. All P (told_of x)) h hs all))
  where
    by_pending : (b : Bool) → All P (report_rows hs) → All P (flat_map told_of (cond b (h ∷ filter is_pending hs) (filter is_pending hs)))
    by_pending true rest = All-append P (told_of h) (report_rows hs) (All-head (λ x. All P (told_of x)) h hs all) rest
    by_pending false rest = rest

place_good : (o : Option (ℕ × ℕ)) → IfSome o IsPlace → IsPlace (unwrap_or o (0, 0))
place_good None good = (omega arith, omega arith)
place_good (Some place) good = good

note_good : (end : Option (ℤ × Outcome)) (row : Row) → IsSavedAt end row → IsNoteAt end (reported_note end row.note)
note_good None row good = good.0
note_good (Some (moment, Fixed)) row good = good
note_good (Some (moment, Failed)) row good = (good.0, place_good row.note.place good.1)
note_good (Some (moment, Interrupted)) row good = good

row_good : (h : PlainHistory) (row : Row) → IsHistory h → last_row h.rows ≡ Some row → IsReportRow Two (report_row h.action row)
row_good h row is last =
    let numbered = is.rows.numbered in
    let number : row.number ≡ length h.rows = last_number h.rows row numbered.numbered last in
    let moments = last_holds HasMoments h.rows row last numbered.moments in
    record {
      action = is.action;
      number = (omega (arith, is.rows.some, number), omega (arith, numbered.few, number));
      begun = moments.0;
      end = moments.1;
      note = note_good row.end row (last_holds IsSavedRow h.rows row last is.rows.good);
    }

told_good : (h : PlainHistory) → IsHistory h → All (IsReportRow Two) (told_of h)
told_good h is = by_last (last_row h.rows) refl
  where
    by_last : (o : Option Row) → last_row h.rows ≡ o → All (IsReportRow Two) (report_of_last h.action o)
    by_last None e = All-nil (IsReportRow Two)
    by_last (Some row) e = All-cons (IsReportRow Two) (report_row h.action row) [] (row_good h row is e) (All-nil (IsReportRow Two))

-- ---- their order
told_above : (n : ℕ) (h : PlainHistory) → n < h.action → All (λ (r : ReportRow). n < r.action) (told_of h)
told_above n h lt = by_last (last_row h.rows)
  where
    by_last : (o : Option Row) → All (λ (r : ReportRow). n < r.action) (report_of_last h.action o)
    by_last None = All-nil (λ (r : ReportRow). n < r.action)
    by_last (Some row) = All-cons (λ (r : ReportRow). n < r.action) (report_row h.action row) [] lt (All-nil (λ (r : ReportRow). n < r.action))

ascends_cons : (row : ReportRow) (rows : List ReportRow) → All (λ (r : ReportRow). row.action < r.action) rows → AreAscending rows → AreAscending (row ∷ rows)
ascends_cons row [] above up = tt
ascends_cons row (next ∷ rows) above up = (All-head (λ (r : ReportRow). row.action < r.action) next rows above, up)

told_ascend : (hs : List PlainHistory) → Rises action_of hs → AreAscending (report_rows hs)
told_ascend [] up = tt
told_ascend (h ∷ hs) up = by_pending h.pending (last_row h.rows) (told_ascend hs (rises_tail action_of h hs up))
  where
    above : All (λ (r : ReportRow). h.action < r.action) (report_rows hs)
    above =
        all_told (λ (r : ReportRow). h.action < r.action) hs
        (All-weaker (λ (x : PlainHistory). h.action < x.action) (λ (x : PlainHistory). All (λ (r : ReportRow). h.action < r.action) (told_of x)) (λ x lt. told_above h.action x lt) hs (rises_head action_of h hs up))

    by_pending : (b : Bool) (o : Option Row) → AreAscending (report_rows hs) → AreAscending (flat_map told_of (cond b (h ∷ filter is_pending hs) (filter is_pending hs)))
    by_pending false o rest = rest
    by_pending true o rest = by_last (last_row h.rows)
      where
        by_last : (o : Option Row) → AreAscending (report_of_last h.action o ++ report_rows hs)
        by_last None = rest
        by_last (Some row) = ascends_cons (report_row h.action row) (report_rows hs) above rest

take_ascend : (n : ℕ) (rows : List ReportRow) → AreAscending rows → AreAscending (take n rows)
take_ascend zero rows up = tt
take_ascend (suc n) [] up = tt
take_ascend (suc zero) (row ∷ rows) up = tt
take_ascend (suc (suc n)) (row ∷ []) up = tt
take_ascend (suc (suc n)) (row ∷ next ∷ rows) up = (up.0, take_ascend (suc n) (next ∷ rows) up.1)

pub told_are : (hs : List PlainHistory) → AreHistories hs → AreReportRows Two (take 500 (report_rows hs))
told_are hs are = record {
  few = omega (arith, length-take 500 (report_rows hs));
  good = All-take (IsReportRow Two) 500 (report_rows hs) (all_told (IsReportRow Two) hs (All-weaker IsHistory (λ h. All (IsReportRow Two) (told_of h)) told_good hs are.good));
  ascending = take_ascend 500 (report_rows hs) (told_ascend hs (rises_from_increasing action_of hs are.ascending));
}

-- ---- one report more
pub outbox_with : (computer : List ℕ) (next : ℕ) (reports : List Report) (report : Report) → length reports < 1000 → IsReport report → report.computer ≡ computer → report.seq ≡ next
    → AreOutbox computer next reports → AreOutbox computer (next + 1) (reports ++ report ∷ [])
outbox_with computer next reports report few good own seq are =
    let R = λ (x y : Report). seq_of x < seq_of y in
    let Below = λ (n : ℕ) (x : Report). x.seq < n in
    record {
      few = omega (arith, few, length-append reports (report ∷ []));
      good = All-push IsReport reports report are.good good;
      own = All-push (λ (x : Report). x.computer ≡ computer) reports report are.own own;
      ascending = increasing_from_rises seq_of (reports ++ report ∷ []) (all_pairs_push R reports report (rises_from_increasing seq_of reports are.ascending) (λ k d inside. omega (arith, are.below k d inside, seq)));
      below = All-push (Below (next + 1)) reports report (All-weaker (Below next) (Below (next + 1)) (λ x lt. omega (arith, lt)) reports are.below) (omega (arith, seq));
    }

-- ---- whether a report can be made
three : (a b c : Bool) → (a && b && c) ≡ true → (a ≡ true) × (b ≡ true) × (c ≡ true)
three true true true e = (refl, refl, refl)
three true true false e = absurd (cc)
three true false c e = absurd (cc)
three false b c e = absurd (cc)

all_three : (a b c : Bool) → b ≡ true → c ≡ true → (a && b && c) ≡ a
all_three true b c e f = cc
all_three false b c e f = refl

no_second : (a b c : Bool) → b ≡ false → (a && b && c) ≡ false
no_second true b c e = cc
no_second false b c e = refl

no_third : (a b c : Bool) → c ≡ false → (a && b && c) ≡ false
no_third true true c e = e
no_third true false c e = refl
no_third false b c e = refl

pub cannot_full : (s : State) → 1000 ≤ length s.reports → can_report s ≡ false
cannot_full s full = no_second (ltb 0 (length (report_rows s.histories))) (ltb (length s.reports) 1000) (ltb s.next (2 ^ 53)) (le-ltb (length s.reports) 1000 full)

pub cannot_last : (s : State) → 2 ^ 53 ≤ s.next → can_report s ≡ false
cannot_last s last = no_third (ltb 0 (length (report_rows s.histories))) (ltb (length s.reports) 1000) (ltb s.next (2 ^ 53)) (le-ltb s.next (2 ^ 53) last)

pub can_any : (items : List History) (s : State) → map shown_history items ≡ s.histories → length s.reports < 1000 → s.next < 2 ^ 53 → All IsHistory s.histories
    → list_any (λ (h : History). h.pending) items ≡ can_report s
can_any items s view few left good =
    any_shown items ∙ ap (list_any is_pending) view ∙ any_told s.histories good
    ∙ sym (all_three (ltb 0 (length (report_rows s.histories))) (ltb (length s.reports) 1000) (ltb s.next (2 ^ 53)) (lt-ltb (length s.reports) 1000 few) (lt-ltb s.next (2 ^ 53) left))

-- there is room in the outbox, and a number is left
pub can_room : (s : State) → can_report s ≡ true → (length s.reports < 1000) × (s.next < 2 ^ 53)
can_room s can =
    let all = three (ltb 0 (length (report_rows s.histories))) (ltb (length s.reports) 1000) (ltb s.next (2 ^ 53)) can in
    (ltb-true (length s.reports) 1000 all.1, ltb-true s.next (2 ^ 53) all.2)

-- ---- bytes
reported_bytes : (most : ℕ) (hs : List PlainHistory) → sum_by history_bytes (with_reported most hs) ≡ sum_by history_bytes hs
reported_bytes most [] = refl
reported_bytes zero (h ∷ hs) = refl
reported_bytes (suc most) (h ∷ hs) = by_pending h.pending (reported_bytes most hs) (reported_bytes (suc most) hs)
  where
    by_pending : (b : Bool) → sum_by history_bytes (with_reported most hs) ≡ sum_by history_bytes hs → sum_by history_bytes (with_reported (suc most) hs) ≡ sum_by history_bytes hs
        → sum_by history_bytes (cond b (record h { pending = false } ∷ with_reported most hs) (h ∷ with_reported (suc most) hs)) ≡ sum_by history_bytes (h ∷ hs)
    by_pending true fewer same =
        sum_by-cons history_bytes (record h { pending = false }) (with_reported most hs) ∙ ap (λ n. history_bytes h + n) fewer ∙ sym (sum_by-cons history_bytes h hs)
    by_pending false fewer same = sum_by-cons history_bytes h (with_reported (suc most) hs) ∙ ap (λ n. history_bytes h + n) same ∙ sym (sum_by-cons history_bytes h hs)

-- what the state with a report needs
pub report_size : (s : State) → most_bytes (with_report s).histories (with_report s).reports ≤ most_bytes s.histories s.reports + (108 + 113 * min 500 (pending_count s.histories))
report_size s =
    let rows = report_rows s.histories in
    omega (arith, reported_bytes 500 s.histories, sum_by_push report_bytes s.reports (next_report s), length-take 500 rows, rows_few s.histories, counted s.histories)

-- a text of the state with a report has room
pub report_within : (n room : ℕ) (s now : State) → now ≡ with_report s → n ≤ most_bytes now.histories now.reports
    → most_bytes s.histories s.reports + (108 + 113 * min 500 (pending_count s.histories + 0)) ≤ room → n ≤ room
report_within n room s now is short enough =
    let size : most_bytes now.histories now.reports ≡ most_bytes (with_report s).histories (with_report s).reports = ap (λ (x : State). most_bytes x.histories x.reports) is in
    let same : pending_count s.histories + 0 ≡ pending_count s.histories = omega arith in
    let room_is : most_bytes s.histories s.reports + (108 + 113 * min 500 (pending_count s.histories)) ≤ room = subst (λ n. most_bytes s.histories s.reports + (108 + 113 * min 500 n) ≤ room) same enough in
    omega (arith, report_size s, size, short, room_is)
