-- Histories in ascending order of their actions stay what can be saved as they change.
use Rattle.std.proofs.Common.{ℕ, zero, suc, ◌≡◌, ◌+◌, ◌<◌, ◌^◌, ℤ, List, [], ◌∷◌, ◌++◌, length, Bool, true, false, cond, refl, sym, ap, ◌∙◌, subst, arith, drop, get_or, map, take, length-append, Option, Some, None, eqb, ltb}
use Rattle.std.specs.Prelude.{filter, All, IfSome, IsSome, IsSomeAnd}
use Rattle.std.specs.List.{remove}
use Rattle.std.specs.List.Sorted.{IsStrictlyIncreasing}
use Rattle.std.proofs.lemmas.List.Quantifiers.{all_pairs_remove}
use Rattle.std.proofs.lemmas.Bool.{cond_both, eq-eqb, eqb-true, false≢true, ltb-true, ne_eqb}
use Rattle.std.proofs.lemmas.List.Elements.{All-nil, All-cons, All-head, All-tail, All-append, All-drop, All-filter, All-take, All-weaker, All-push, All-map, filter_passes}
use Rattle.std.proofs.lemmas.List.Kept.{AllPairs-filter}
use Rattle.desk_base.specs.Moments.{IsMoment}
use Rattle.line_forms.specs.Numbers.{IsId}
use Rattle.act_rules.specs.declared.row.Note.{Note}
use Rattle.act_rules.specs.declared.row.Outcome.{Outcome}
use Rattle.act_rules.specs.declared.row.Row.{Row}
use Rattle.act_rules.specs.Rows.{HasEnded, HasMoments, IsRows, last_row, with_last}
use Rattle.line_forms.proofs.Lasts.{last_step}
use Rattle.line_forms.proofs.Rising.{Rises, increasing_from_rises, rises_around, rises_from_increasing, rises_head, rises_tail}
use Rattle.act_rules.proofs.RowLemmas.{last_some, length_with_last, rows_snoc, rows_with_last}
use Rattle.agent_text.specs.SavedRows.{AreSavedRows, IsSavedAt, IsSavedNote, IsSavedRow}
use Rattle.agent_text.specs.Histories.{AreHistories, IsHistory, PlainHistory, cleared, rows_at, with_begun, with_cleared, with_ended, with_history, with_reported}

-- ---- a history at its place
abbrev pub action_of : PlainHistory → ℕ
action_of h = h.action

-- with a history at its action
pub with_history_kept : (h : PlainHistory) (hs : List PlainHistory) → IsHistory h → AreHistories hs → AreHistories (with_history h hs)
with_history_kept h hs good are =
    let below = λ (o : PlainHistory). ltb o.action h.action in
    let above = λ (o : PlainHistory). ltb h.action o.action in
    let up = rises_from_increasing action_of hs are.ascending in
    let R = λ (x y : PlainHistory). x.action < y.action in
    record {
      good = All-append IsHistory (filter below hs) (h ∷ filter above hs) (All-filter below IsHistory hs are.good)
          (All-cons IsHistory h (filter above hs) good (All-filter above IsHistory hs are.good));
      ascending = increasing_from_rises action_of (filter below hs ++ h ∷ filter above hs)
          (rises_around action_of (filter below hs) h (filter above hs) (AllPairs-filter R below hs up)
          (All-weaker (λ o. below o ≡ true) (λ o. o.action < h.action) (λ o e. ltb-true o.action h.action e) (filter below hs) (filter_passes below hs))
          (All-weaker (λ o. above o ≡ true) (λ o. h.action < o.action) (λ o e. ltb-true h.action o.action e) (filter above hs) (filter_passes above hs))
          (AllPairs-filter R above hs up));
    }

-- without one of them
pub removed_kept : (hs : List PlainHistory) (place : ℕ) → place < length hs → AreHistories hs → AreHistories (remove hs place)
removed_kept hs place inside are = record {
  good = All-append IsHistory (take place hs) (drop (suc place) hs) (All-take IsHistory place hs are.good) (All-drop IsHistory (suc place) hs are.good);
  ascending = increasing_from_rises action_of (remove hs place) (all_pairs_remove (λ x y. x.action < y.action) hs place inside (rises_from_increasing action_of hs are.ascending));
}

-- ---- the rows of an action
-- rows that a history has, or none
record AreRows (rows : List Row) : Type 0 where
  numbered : IsRows rows
  good : All IsSavedRow rows

no_rows : AreRows []
no_rows = record {
  numbered = record { few = omega arith; numbered = tt; ended = tt; moments = All-nil HasMoments };
  good = All-nil IsSavedRow;
}

rows_are : (action : ℕ) (hs : List PlainHistory) → All IsHistory hs → AreRows (rows_at action hs)
rows_are action [] good = no_rows
rows_are action (h ∷ hs) good =
    let is = All-head IsHistory h hs good in
    cond_both (eqb h.action action) h.rows (rows_at action hs) AreRows (λ e. record { numbered = is.rows.numbered; good = is.rows.good })
    (λ e. rows_are action hs (All-tail IsHistory h hs good))

-- an action that has rows is one of a history
id_of_rows : (action : ℕ) (hs : List PlainHistory) → All IsHistory hs → 0 < length (rows_at action hs) → IsId action
id_of_rows action [] good some = absurd (omega arith)
id_of_rows action (h ∷ hs) good some =
    cond_both (eqb h.action action) h.rows (rows_at action hs) (λ rows. 0 < length rows → IsId action)
    (λ e _. subst IsId (eqb-true h.action action e) (All-head IsHistory h hs good).action)
    (λ e later. id_of_rows action hs (All-tail IsHistory h hs good) later) some

-- rows whose last one is changed
saved_with_last : (P : Row → Type 0) (rows : List Row) (change : Row → Row) → ((row : Row) → P row → IsSavedRow row → IsSavedRow (change row))
    → IsSomeAnd (last_row rows) P → All IsSavedRow rows → All IsSavedRow (with_last rows change)
saved_with_last P [] change keeps last good = good
saved_with_last P (x ∷ []) change keeps last good =
    All-cons IsSavedRow (change x) [] (keeps x last (All-head IsSavedRow x [] good)) (All-nil IsSavedRow)
saved_with_last P (x ∷ y ∷ rows) change keeps last good =
    All-cons IsSavedRow x (with_last (y ∷ rows) change) (All-head IsSavedRow x (y ∷ rows) good)
    (saved_with_last P (y ∷ rows) change keeps (subst (λ o. IsSomeAnd o P) (sym (last_step x y rows)) last) (All-tail IsSavedRow x (y ∷ rows) good))

saved_rows_with_last : (P : Row → Type 0) (rows : List Row) (change : Row → Row) → ((row : Row) → (change row).number ≡ row.number)
    → ((row : Row) → HasMoments row → HasMoments (change row)) → ((row : Row) → P row → IsSavedRow row → IsSavedRow (change row))
    → IsSomeAnd (last_row rows) P → AreRows rows → AreSavedRows (with_last rows change)
saved_rows_with_last P rows change number moments keeps last are =
    let count : length (with_last rows change) ≡ length rows = length_with_last rows change in
    record {
      some = omega (arith, last_some rows P last);
      numbered = rows_with_last rows change number moments are.numbered;
      good = saved_with_last P rows change keeps last are.good;
    }

-- ---- the changes
pub begun_kept : (hs : List PlainHistory) (action : ℕ) (row : Row) → AreHistories hs → IsId action
    → IfSome (last_row (rows_at action hs)) HasEnded → length (rows_at action hs) + 1 < 2 ^ 32
    → row.number ≡ length (rows_at action hs) + 1 → HasMoments row → IsSavedRow row → AreHistories (with_begun action row hs)
begun_kept hs action row are id ended few number moments good =
    let rows = rows_at action hs in
    let is = rows_are action hs are.good in
    with_history_kept (record { action = action; rows = rows ++ row ∷ []; pending = true }) hs
    (record {
      action = id;
      rows = record {
        some = omega (arith, length-append rows (row ∷ []));
        numbered = rows_snoc rows row is.numbered (omega arith) ended number moments;
        good = All-push IsSavedRow rows row is.good good;
      };
    }) are

pub ended_kept : (hs : List PlainHistory) (action : ℕ) (moment : ℤ) (outcome : Outcome) (note : Note) → AreHistories hs
    → IsMoment moment → IsSomeAnd (last_row (rows_at action hs)) (λ row. row.end ≡ None) → IsSavedNote outcome note
    → AreHistories (with_ended action moment outcome note hs)
ended_kept hs action moment outcome note are time running good =
    let rows = rows_at action hs in
    let change = λ (row : Row). record row { end = Some (moment, outcome); note = note } in
    let Runs = λ (row : Row). row.end ≡ None in
    with_history_kept (record { action = action; rows = with_last rows change; pending = true }) hs
    (record {
      action = id_of_rows action hs are.good (last_some rows Runs running);
      rows = saved_rows_with_last Runs rows change (λ row. refl) (λ row h. (h.0, time, h.2)) (λ row _ _. good) running (rows_are action hs are.good);
    }) are

-- the history of an action has its rows
pub rows_of : (hs : List PlainHistory) (i : ℕ) (d : PlainHistory) → Rises action_of hs → i < length hs
    → rows_at (get_or hs i d).action hs ≡ (get_or hs i d).rows
rows_of [] i d up inside = absurd (omega arith)
rows_of (h ∷ hs) zero d up inside =
    ap (λ b. cond b h.rows (rows_at h.action hs)) (eq-eqb h.action h.action refl)
rows_of (h ∷ hs) (suc i) d up inside =
    let lt : h.action < (get_or hs i d).action = rises_head action_of h hs up i d (omega arith) in
    ap (λ b. cond b h.rows (rows_at (get_or hs i d).action hs)) (ne_eqb h.action (get_or hs i d).action (λ e. omega (arith, e, lt)))
    ∙ rows_of hs i d (rises_tail action_of h hs up) (omega arith)

-- an action that no history has has no rows
pub no_rows_of : (action : ℕ) (hs : List PlainHistory) → All (λ h. ¬ (h.action ≡ action)) hs → rows_at action hs ≡ []
no_rows_of action [] other = refl
no_rows_of action (h ∷ hs) other =
    let Other = λ (h : PlainHistory). ¬ (h.action ≡ action) in
    ap (λ b. cond b h.rows (rows_at action hs)) (ne_eqb h.action action (All-head Other h hs other))
    ∙ no_rows_of action hs (All-tail Other h hs other)

-- histories that keep their actions
same_actions : (change : PlainHistory → PlainHistory) (hs : List PlainHistory) → ((h : PlainHistory) → (change h).action ≡ h.action)
    → map action_of (map change hs) ≡ map action_of hs
same_actions change [] keeps = refl
same_actions change (h ∷ hs) keeps = λ t. keeps h t ∷ same_actions change hs keeps t

-- a history whose last attempt is cleared where it is that of the action
abbrev pub one_cleared : ℕ → ℤ → PlainHistory → PlainHistory
one_cleared action moment h = cond (eqb h.action action) (cleared moment h) h

cleared_history : (moment : ℤ) (h : PlainHistory) → IsMoment moment → IsSomeAnd (last_row h.rows) HasEnded → IsHistory h → IsHistory (cleared moment h)
cleared_history moment h time ended is =
    let change = λ (row : Row). record row { cleared = Some moment } in
    record {
      action = is.action;
      rows = saved_rows_with_last HasEnded h.rows change (λ row. refl) (λ row m. (m.0, m.1, time)) (λ row. still row moment row.end refl) ended
          (record { numbered = is.rows.numbered; good = is.rows.good });
    }
  where
    still : (row : Row) (moment : ℤ) (end : Option (ℤ × Outcome)) → row.end ≡ end → HasEnded row → IsSavedRow row → IsSavedRow (record row { cleared = Some moment })
    still row moment None e ended good = absurd (false≢true (subst (λ o. IsSome o) e ended))
    still row moment (Some end) e ended good =
        subst (λ o. IsSavedAt o (record row { cleared = Some moment })) (sym e) (subst (λ o. IsSavedAt o row) e good)

pub cleared_kept : (hs : List PlainHistory) (action : ℕ) (moment : ℤ) → AreHistories hs → IsMoment moment
    → IsSomeAnd (last_row (rows_at action hs)) HasEnded → AreHistories (with_cleared action moment hs)
cleared_kept hs action moment are time ended =
    let up = rises_from_increasing action_of hs are.ascending in
    record {
      good = All-map IsHistory (one_cleared action moment) hs (λ i d inside. one (get_or hs i d) (rows_of hs i d up inside) (are.good i d inside) (eqb (get_or hs i d).action action) refl);
      ascending = subst IsStrictlyIncreasing (sym (same_actions (one_cleared action moment) hs (λ h. same h (eqb h.action action)))) are.ascending;
    }
  where
    same : (h : PlainHistory) (b : Bool) → (cond b (cleared moment h) h).action ≡ h.action
    same h true = refl
    same h false = refl

    one : (h : PlainHistory) → rows_at h.action hs ≡ h.rows → IsHistory h → (b : Bool) → eqb h.action action ≡ b → IsHistory (cond b (cleared moment h) h)
    one h rows is true e =
        let found : rows_at action hs ≡ h.rows = ap (λ a. rows_at a hs) (sym (eqb-true h.action action e)) ∙ rows in
        cleared_history moment h time (subst (λ r. IsSomeAnd (last_row r) HasEnded) found ended) is
    one h rows is false e = is

reported_good : (most : ℕ) (hs : List PlainHistory) → All IsHistory hs → All IsHistory (with_reported most hs)
reported_good most [] good = good
reported_good zero (h ∷ hs) good = good
reported_good (suc most) (h ∷ hs) good =
    let first = All-head IsHistory h hs good in
    let others = All-tail IsHistory h hs good in
    let told : PlainHistory = record h { pending = false } in
    cond_both h.pending (told ∷ with_reported most hs) (h ∷ with_reported (suc most) hs) (All IsHistory)
    (λ e. All-cons IsHistory told (with_reported most hs) (record { action = first.action; rows = first.rows }) (reported_good most hs others))
    (λ e. All-cons IsHistory h (with_reported (suc most) hs) first (reported_good (suc most) hs others))

reported_actions : (most : ℕ) (hs : List PlainHistory) → map action_of (with_reported most hs) ≡ map action_of hs
reported_actions most [] = refl
reported_actions zero (h ∷ hs) = refl
reported_actions (suc most) (h ∷ hs) =
    let told : PlainHistory = record h { pending = false } in
    cond_both h.pending (told ∷ with_reported most hs) (h ∷ with_reported (suc most) hs) (λ l. map action_of l ≡ map action_of (h ∷ hs))
    (λ e. ap (λ l. h.action ∷ l) (reported_actions most hs))
    (λ e. ap (λ l. h.action ∷ l) (reported_actions (suc most) hs))

pub reported_kept : (hs : List PlainHistory) (most : ℕ) → AreHistories hs → AreHistories (with_reported most hs)
reported_kept hs most are = record {
  good = reported_good most hs are.good;
  ascending = subst IsStrictlyIncreasing (sym (reported_actions most hs)) are.ascending;
}
