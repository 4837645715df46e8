-- How many rows an action has as histories change, and the number of its last row.
use Rattle.std.proofs.Common.{ℕ, ◌≡◌, ◌+◌, ◌≤◌, ℤ, List, [], ◌∷◌, ◌++◌, Bool, true, false, cond, length, refl, sym, ap, ◌∙◌, subst, arith, eqb, length-append, Option, Some, None}
use Rattle.std.specs.Prelude.{All, IsSomeAnd}
use Rattle.std.proofs.lemmas.Bool.{cond_both, eq-eqb, eqb-true}
use Rattle.std.proofs.lemmas.List.Elements.{All-head, All-tail}
use Rattle.act_rules.specs.declared.row.Note.{Note}
use Rattle.act_rules.specs.declared.row.Outcome.{Outcome}
use Rattle.act_rules.specs.declared.row.Row.{Row}
use Rattle.act_rules.specs.Rows.{AreNumbered, last_row, with_last}
use Rattle.line_forms.proofs.Lasts.{last_step}
use Rattle.act_rules.proofs.RowLemmas.{length_with_last}
use Rattle.agent_text.specs.Histories.{AreHistories, IsHistory, PlainHistory, cleared, rows_at, with_begun, with_cleared, with_ended}
use Rattle.agent_attempt.specs.Attempts.{PlainAttempt}
use Rattle.agent_state.specs.States.{HeldRuns, new_row, next_row}
use Rattle.agent_state.proofs.RowsAt.{rows_here, rows_other}

pub rows_begun : (action : ℕ) (row : Row) (hs : List PlainHistory) → rows_at action (with_begun action row hs) ≡ rows_at action hs ++ row ∷ []
rows_begun action row hs = rows_here (record { action = action; rows = rows_at action hs ++ row ∷ []; pending = true }) hs

-- the row of an attempt that begins is the last
pub count_begun : (action : ℕ) (moment : ℤ) (hs : List PlainHistory) → length (rows_at action (with_begun action (new_row (next_row action hs) moment) hs)) ≡ next_row action hs
count_begun action moment hs =
    let row = new_row (next_row action hs) moment in
    let count : length (rows_at action (with_begun action row hs)) ≡ length (rows_at action hs ++ row ∷ []) = ap (λ (l : List Row). length l) (rows_begun action row hs) in
    omega (arith, count, length-append (rows_at action hs) (row ∷ []))

pub begun_there : (action : ℕ) (moment : ℤ) (hs : List PlainHistory) → next_row action hs ≤ length (rows_at action (with_begun action (new_row (next_row action hs) moment) hs))
begun_there action moment hs = let count = count_begun action moment hs in omega (arith, count)

-- an attempt that ends is a row as before
pub count_ended : (of action : ℕ) (moment : ℤ) (outcome : Outcome) (note : Note) (hs : List PlainHistory) → length (rows_at of (with_ended action moment outcome note hs)) ≡ length (rows_at of hs)
count_ended of action moment outcome note hs = by_id (eqb of action) refl
  where
    change : Row → Row
    change row = record row { end = Some (moment, outcome); note = note }

    h : PlainHistory
    h = record { action = action; rows = with_last (rows_at action hs) change; pending = true }

    by_id : (b : Bool) → eqb of action ≡ b → length (rows_at of (with_ended action moment outcome note hs)) ≡ length (rows_at of hs)
    by_id true e =
        let same : of ≡ action = eqb-true of action e in
        let all = with_ended action moment outcome note hs in
        ap (λ a. length (rows_at a all)) same ∙ ap (λ (l : List Row). length l) (rows_here h hs) ∙ length_with_last (rows_at action hs) change ∙ ap (λ a. length (rows_at a hs)) (sym same)
    by_id false e = ap (λ (l : List Row). length l) (rows_other h hs of (λ s. let so : eqb of action ≡ true = eq-eqb of action s in cc))

count_either : (b : Bool) (x y xs ys : List Row) → length x ≡ length y → length xs ≡ length ys → length (cond b x xs) ≡ length (cond b y ys)
count_either true x y xs ys one rest = one
count_either false x y xs ys one rest = rest

-- and so is one that is cleared
pub count_cleared : (of action : ℕ) (moment : ℤ) (hs : List PlainHistory) → length (rows_at of (with_cleared action moment hs)) ≡ length (rows_at of hs)
count_cleared of action moment [] = refl
count_cleared of action moment (h ∷ hs) = by_id (eqb h.action action) (count_cleared of action moment hs)
  where
    by_id : (b : Bool) → length (rows_at of (with_cleared action moment hs)) ≡ length (rows_at of hs) → length (rows_at of (cond b (cleared moment h) h ∷ with_cleared action moment hs)) ≡ length (rows_at of (h ∷ hs))
    by_id true rest = count_either (eqb h.action of) _ h.rows (rows_at of (with_cleared action moment hs)) (rows_at of hs) (length_with_last h.rows (λ row. record row { cleared = Some moment })) rest
    by_id false rest = count_either (eqb h.action of) h.rows h.rows (rows_at of (with_cleared action moment hs)) (rows_at of hs) refl rest

-- ---- numbers
numbered_at : (action : ℕ) (hs : List PlainHistory) → All IsHistory hs → AreNumbered 1 (rows_at action hs)
numbered_at action [] good = tt
numbered_at action (h ∷ hs) good =
    cond_both (eqb h.action action) h.rows (rows_at action hs) (AreNumbered 1) (λ e. (All-head IsHistory h hs good).rows.numbered.numbered) (λ e. numbered_at action hs (All-tail IsHistory h hs good))

last_number : (n number : ℕ) (rows : List Row) → AreNumbered n rows → IsSomeAnd (last_row rows) (λ row. (row.end ≡ None) × (row.number ≡ number)) → number + 1 ≡ length rows + n
last_number n number [] are last = absurd last
last_number n number (x ∷ []) are last =
    let is : x.number ≡ number = last.1 in
    let first : x.number ≡ n = are.0 in
    omega (arith, is, first)
last_number n number (x ∷ y ∷ rows) are last =
    let Is : Option Row → Type 0 = λ o. IsSomeAnd o (λ row. (row.end ≡ None) × (row.number ≡ number)) in
    let rest : number + 1 ≡ length (y ∷ rows) + (n + 1) = last_number (n + 1) number (y ∷ rows) are.1 (subst Is (sym (last_step x y rows)) last) in
    omega (arith, rest)

-- an attempt that is held is one of its action's rows
pub held_row : (attempt : PlainAttempt) (hs : List PlainHistory) → AreHistories hs → HeldRuns (Some attempt) hs → attempt.row ≤ length (rows_at attempt.action.id hs)
held_row attempt hs are runs =
    let is : attempt.row + 1 ≡ length (rows_at attempt.action.id hs) + 1 = last_number 1 attempt.row (rows_at attempt.action.id hs) (numbered_at attempt.action.id hs are.good) runs in
    omega (arith, is)
