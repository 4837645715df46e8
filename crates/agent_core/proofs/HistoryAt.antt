-- The history of an action among the others, and another one in its place.
use Rattle.std.proofs.Common.{ℕ, suc, ◌≡◌, ◌+◌, ◌*◌, ◌<◌, ◌≤◌, ℤ, List, [], ◌∷◌, ◌++◌, length, length-append, Bool, true, false, cond, eqb, ltb, Some, refl, sym, ap, subst, ◌∙◌, arith}
use Rattle.std.specs.Prelude.{filter, sum_by, All, IsSomeAnd}
use Rattle.std.proofs.lemmas.Bool.{eqb-true, le-ltb, lt-ltb}
use Rattle.std.proofs.lemmas.List.{length-map}
use Rattle.std.proofs.lemmas.List.Elements.{All-head, All-tail, filter-append}
use Rattle.std.proofs.lemmas.List.Sums.{sum_by-append, sum_by-cons}
use Rattle.act_rules.specs.declared.row.Note.{Note}
use Rattle.act_rules.specs.declared.row.Outcome.{Outcome}
use Rattle.act_rules.specs.declared.row.Row.{Row}
use Rattle.act_rules.specs.Rows.{last_row, with_last}
use Rattle.report_text.specs.declared.report.Report.{Report}
use Rattle.agent_text.specs.Histories.{AreHistories, PlainHistory, rows_at, with_ended, with_history}
use Rattle.agent_text.specs.MostBytes.{history_bytes, report_bytes}
use Rattle.agent_text.specs.SavedTexts.{most_bytes}
use Rattle.agent_state.specs.Counting.{pending_count}
use Rattle.line_forms.proofs.Rising.{Rises, rises_from_increasing, rises_head, rises_tail}

abbrev pub action_of : PlainHistory → ℕ
action_of h = h.action

abbrev pub is_pending : PlainHistory → Bool
is_pending h = h.pending

-- those of lesser and of greater actions
abbrev below : ℕ → List PlainHistory → List PlainHistory
below action hs = filter (λ (other : PlainHistory). ltb other.action action) hs

abbrev above : ℕ → List PlainHistory → List PlainHistory
above action hs = filter (λ (other : PlainHistory). ltb action other.action) hs

-- ---- where it stands
pub record Stands (action : ℕ) (hs : List PlainHistory) : Type 0 where
  pub here : PlainHistory
  pub rows : here.rows ≡ rows_at action hs
  pub whole : hs ≡ below action hs ++ here ∷ above action hs

none_below : (action : ℕ) (hs : List PlainHistory) → All (λ y. action < action_of y) hs → below action hs ≡ []
none_below action [] later = refl
none_below action (h ∷ hs) later =
    let lt : action < h.action = All-head (λ y. action < action_of y) h hs later in
    ap (λ b. cond b (h ∷ below action hs) (below action hs)) (le-ltb h.action action (omega (arith, lt))) ∙ none_below action hs (All-tail (λ y. action < action_of y) h hs later)

all_above : (action : ℕ) (hs : List PlainHistory) → All (λ y. action < action_of y) hs → above action hs ≡ hs
all_above action [] later = refl
all_above action (h ∷ hs) later =
    let lt : action < h.action = All-head (λ y. action < action_of y) h hs later in
    ap (λ b. cond b (h ∷ above action hs) (above action hs)) (lt-ltb action h.action lt) ∙ ap (λ l. h ∷ l) (all_above action hs (All-tail (λ y. action < action_of y) h hs later))

-- an action with rows is one of theirs
found_above : (n action : ℕ) (hs : List PlainHistory) → All (λ y. n < action_of y) hs → 0 < length (rows_at action hs) → n < action
found_above n action [] later some = absurd (omega arith)
found_above n action (h ∷ hs) later some = by_id (eqb h.action action) refl some (λ rest. found_above n action hs (All-tail (λ y. n < action_of y) h hs later) rest)
  where
    by_id : (b : Bool) → eqb h.action action ≡ b → 0 < length (cond b h.rows (rows_at action hs)) → (0 < length (rows_at action hs) → n < action) → n < action
    by_id true e here next =
        let same : h.action ≡ action = eqb-true h.action action e in
        let lt : n < h.action = All-head (λ y. n < action_of y) h hs later in
        omega (arith, same, lt)
    by_id false e rest next = next rest

pub stands_at : (action : ℕ) (hs : List PlainHistory) → Rises action_of hs → 0 < length (rows_at action hs) → Stands action hs
stands_at action [] up some = absurd (omega arith)
stands_at action (h ∷ hs) up some = by_id (eqb h.action action) refl some (λ rest. stands_at action hs (rises_tail action_of h hs up) rest)
  where
    later : All (λ y. h.action < action_of y) hs
    later = rises_head action_of h hs up

    by_id : (b : Bool) → eqb h.action action ≡ b → 0 < length (cond b h.rows (rows_at action hs)) → (0 < length (rows_at action hs) → Stands action hs) → Stands action (h ∷ hs)
    by_id true e here next =
        let same : h.action ≡ action = eqb-true h.action action e in
        let others : All (λ y. action < action_of y) hs = subst (λ n. All (λ y. n < action_of y) hs) same later in
        let low : below action (h ∷ hs) ≡ [] = ap (λ b. cond b (h ∷ below action hs) (below action hs)) (le-ltb h.action action (omega (arith, same))) ∙ none_below action hs others in
        let high : above action (h ∷ hs) ≡ hs = ap (λ b. cond b (h ∷ above action hs) (above action hs)) (le-ltb action h.action (omega (arith, same))) ∙ all_above action hs others in
        record { here = h; rows = sym (ap (λ b. cond b h.rows (rows_at action hs)) e); whole = λ t. sym low t ++ h ∷ sym high t }
    by_id false e rest next =
        let there = next rest in
        let lt : h.action < action = found_above h.action action hs later rest in
        let low : below action (h ∷ hs) ≡ h ∷ below action hs = ap (λ b. cond b (h ∷ below action hs) (below action hs)) (lt-ltb h.action action lt) in
        let high : above action (h ∷ hs) ≡ above action hs = ap (λ b. cond b (h ∷ above action hs) (above action hs)) (le-ltb action h.action (omega (arith, lt))) in
        record {
          here = there.here;
          rows = there.rows ∙ sym (ap (λ b. cond b h.rows (rows_at action hs)) e);
          whole = ap (λ l. h ∷ l) there.whole ∙ (λ t. sym low t ++ there.here ∷ sym high t);
        }

-- ---- another one in its place
placed_bytes : (h : PlainHistory) (before after : List PlainHistory) → sum_by history_bytes (before ++ h ∷ after) ≡ sum_by history_bytes before + (49 + 113 * length h.rows + sum_by history_bytes after)
placed_bytes h before after = sum_by-append history_bytes before (h ∷ after) ∙ ap (λ n. sum_by history_bytes before + n) (sum_by-cons history_bytes h after)

same_bytes : (h : PlainHistory) (hs : List PlainHistory) → Stands h.action hs → length h.rows ≡ length (rows_at h.action hs) → sum_by history_bytes (with_history h hs) ≡ sum_by history_bytes hs
same_bytes h hs there many =
    let count : length h.rows ≡ length there.here.rows = many ∙ ap (length {A = Row}) (sym there.rows) in
    placed_bytes h (below h.action hs) (above h.action hs)
    ∙ ap (λ n. sum_by history_bytes (below h.action hs) + (49 + 113 * n + sum_by history_bytes (above h.action hs))) count
    ∙ sym (placed_bytes there.here (below h.action hs) (above h.action hs)) ∙ sym (ap (sum_by history_bytes) there.whole)

pub counted : (hs : List PlainHistory) → pending_count hs ≡ length (filter is_pending hs)
counted hs = length-map (filter is_pending hs) (λ (x : PlainHistory). x.action)

placed_count : (h : PlainHistory) (before after : List PlainHistory) → pending_count (before ++ h ∷ after) ≡ length (filter is_pending before) + length (cond h.pending (h ∷ filter is_pending after) (filter is_pending after))
placed_count h before after =
    counted (before ++ h ∷ after) ∙ ap (length {A = PlainHistory}) (filter-append is_pending before (h ∷ after)) ∙ length-append (filter is_pending before) (filter is_pending (h ∷ after))

one_more : {X : Type 0} (a b : Bool) (x y : X) (xs : List X) → length (cond a (x ∷ xs) xs) ≤ length (cond b (y ∷ xs) xs) + 1
one_more true true x y xs = omega arith
one_more true false x y xs = omega arith
one_more false true x y xs = omega arith
one_more false false x y xs = omega arith

pub pending_more : (h : PlainHistory) (hs : List PlainHistory) → Stands h.action hs → pending_count (with_history h hs) ≤ pending_count hs + 1
pending_more h hs there =
    let before = below h.action hs in
    let after = above h.action hs in
    let whole : pending_count hs ≡ length (filter is_pending before) + length (cond there.here.pending (there.here ∷ filter is_pending after) (filter is_pending after)) =
    ap pending_count there.whole ∙ placed_count there.here before after in
    omega (arith, whole, placed_count h before after, one_more h.pending there.here.pending h there.here (filter is_pending after))

-- ---- the last attempt ends
length_with_last : (rows : List Row) (change : Row → Row) → length (with_last rows change) ≡ length rows
length_with_last [] change = refl
length_with_last (x ∷ []) change = refl
length_with_last (x ∷ y ∷ rows) change = ap suc (length_with_last (y ∷ rows) change)

pub some_rows : (rows : List Row) (P : Row → Type 0) → IsSomeAnd (last_row rows) P → 0 < length rows
some_rows [] P h = absurd h
some_rows (x ∷ rows) P h = omega arith

-- no more bytes are needed, and one action more is pending at most
pub ended_size : (action : ℕ) (moment : ℤ) (outcome : Outcome) (note : Note) (P : Row → Type 0) (hs : List PlainHistory) (reports : List Report) → AreHistories hs → IsSomeAnd (last_row (rows_at action hs)) P
    → (most_bytes (with_ended action moment outcome note hs) reports ≡ most_bytes hs reports) × (pending_count (with_ended action moment outcome note hs) ≤ pending_count hs + 1)
ended_size action moment outcome note P hs reports are last =
    let change = λ (row : Row). record row { end = Some (moment, outcome); note = note } in
    let h : PlainHistory = record { action = action; rows = with_last (rows_at action hs) change; pending = true } in
    let there = stands_at action hs (rises_from_increasing action_of hs are.ascending) (some_rows (rows_at action hs) P last) in
    (ap (λ n. 108 + (n + sum_by report_bytes reports)) (same_bytes h hs there (length_with_last (rows_at action hs) change)), pending_more h hs there)
