-- Marks change nothing that a tally stands for.
use Rattle.std.proofs.Common.{ℕ, ◌≡◌, ◌+◌, ◌-◌, List, [], ◌∷◌, ◌++◌, length, map, Bool, true, false, cond, eqb, refl, sym, ap, ◌∙◌}
use Rattle.std.specs.Prelude.{is_some}
use Rattle.std.proofs.lemmas.List.{length-map, map-append}
use Rattle.std.proofs.lemmas.List.Elements.{All-weaker}
use Rattle.act_rules.specs.declared.row.Row.{Row}
use Rattle.act_rules.specs.declared.tally.Tally.{Tally}
use Rattle.act_rules.specs.Series.{begun_series, closed_after, closes, is_closed, last_series, series, series_after}
use Rattle.act_rules.specs.Tallies.{StandsFor, ended_rows}
use Rattle.agent_text.specs.Histories.{PlainHistory, rows_at}
use Rattle.agent_state.specs.declared.tallies.ActionTally.{ActionTally}
use Rattle.agent_state.specs.Lookups.{AllStand}
use Rattle.agent_core.specs.Steps.{AreMarked, unmarked, unmarked_row}

-- ---- rows without their marks
ended_unmarked : (rows : List Row) → ended_rows (map unmarked_row rows) ≡ map unmarked_row (ended_rows rows)
ended_unmarked [] = refl
ended_unmarked (row ∷ rows) = by_end (is_some row.end) (ended_unmarked rows)
  where
    by_end : (b : Bool) → ended_rows (map unmarked_row rows) ≡ map unmarked_row (ended_rows rows)
        → cond b (unmarked_row row ∷ ended_rows (map unmarked_row rows)) (ended_rows (map unmarked_row rows)) ≡ map unmarked_row (cond b (row ∷ ended_rows rows) (ended_rows rows))
    by_end true next = ap (λ l. unmarked_row row ∷ l) next
    by_end false next = next

begun_unmarked : (front : List Row) → begun_series (map unmarked_row front) ≡ map (map unmarked_row) (begun_series front)
begun_unmarked [] = refl
begun_unmarked (row ∷ rows) = refl

after_unmarked : (retries : ℕ) (front rows : List Row) → series_after retries (map unmarked_row front) (map unmarked_row rows) ≡ map (map unmarked_row) (series_after retries front rows)
after_unmarked retries front [] = begun_unmarked front
after_unmarked retries front (row ∷ rows) =
    (λ t. cond (closes retries (length-map front unmarked_row t) row) (sym longer t ∷ series_after retries [] (map unmarked_row rows)) (series_after retries (sym longer t) (map unmarked_row rows)))
    ∙ by_closing (closes retries (length front) row) (after_unmarked retries [] rows) (after_unmarked retries (front ++ row ∷ []) rows)
  where
    longer : map unmarked_row (front ++ row ∷ []) ≡ map unmarked_row front ++ unmarked_row row ∷ []
    longer = map-append unmarked_row front (row ∷ [])

    by_closing : (b : Bool) → series_after retries [] (map unmarked_row rows) ≡ map (map unmarked_row) (series_after retries [] rows)
        → series_after retries (map unmarked_row (front ++ row ∷ [])) (map unmarked_row rows) ≡ map (map unmarked_row) (series_after retries (front ++ row ∷ []) rows)
        → cond b (map unmarked_row (front ++ row ∷ []) ∷ series_after retries [] (map unmarked_row rows)) (series_after retries (map unmarked_row (front ++ row ∷ [])) (map unmarked_row rows))
        ≡ map (map unmarked_row) (cond b ((front ++ row ∷ []) ∷ series_after retries [] rows) (series_after retries (front ++ row ∷ []) rows))
    by_closing true new more = ap (λ l. map unmarked_row (front ++ row ∷ []) ∷ l) new
    by_closing false new more = more

last_unmarked : (ss : List (List Row)) → last_series (map (map unmarked_row) ss) ≡ map unmarked_row (last_series ss)
last_unmarked [] = refl
last_unmarked (s ∷ []) = refl
last_unmarked (s ∷ next ∷ ss) = last_unmarked (next ∷ ss)

closed_unmarked : (retries before : ℕ) (rows : List Row) → closed_after retries before (map unmarked_row rows) ≡ closed_after retries before rows
closed_unmarked retries before [] = refl
closed_unmarked retries before (row ∷ []) = refl
closed_unmarked retries before (row ∷ next ∷ rows) = closed_unmarked retries (before + 1) (next ∷ rows)

-- what is counted of the ended ones
module _ (retries : ℕ) (rows : List Row) where
  abbrev here : List (List Row)
  here = series retries (ended_rows rows)

  same_series : series retries (ended_rows (map unmarked_row rows)) ≡ map (map unmarked_row) here
  same_series = ap (series retries) (ended_unmarked rows) ∙ after_unmarked retries [] (ended_rows rows)

  same_number : length (series retries (ended_rows (map unmarked_row rows))) ≡ length here
  same_number = ap length same_series ∙ length-map here (map unmarked_row)

  same_last : last_series (series retries (ended_rows (map unmarked_row rows))) ≡ map unmarked_row (last_series here)
  same_last = ap last_series same_series ∙ last_unmarked here

  same_length : length (last_series (series retries (ended_rows (map unmarked_row rows)))) ≡ length (last_series here)
  same_length = ap length same_last ∙ length-map (last_series here) unmarked_row

  same_closed : is_closed retries (ended_rows (map unmarked_row rows)) ≡ is_closed retries (ended_rows rows)
  same_closed = ap (closed_after retries 0) same_last ∙ closed_unmarked retries 0 (last_series here)

-- ---- marks
pub stands_marked : (tally : Tally) (retries : ℕ) (rows marked : List Row) → map unmarked_row marked ≡ map unmarked_row rows → StandsFor tally retries rows → StandsFor tally retries marked
stands_marked tally retries rows marked same stands = record {
  under = stands.under;
  number = stands.number ∙ sym (same_number retries rows) ∙ ap (λ (l : List Row). length (series retries (ended_rows l))) (sym same) ∙ same_number retries marked;
  last = stands.last
      ∙ ap (λ n. n - 1) (sym (same_length retries rows) ∙ ap (λ (l : List Row). length (last_series (series retries (ended_rows l)))) (sym same) ∙ same_length retries marked);
  closed = stands.closed ∙ sym (same_closed retries rows) ∙ ap (λ (l : List Row). is_closed retries (ended_rows l)) (sym same) ∙ same_closed retries marked;
}

rows_unmarked : (id : ℕ) (hs : List PlainHistory) → rows_at id (map unmarked hs) ≡ map unmarked_row (rows_at id hs)
rows_unmarked id [] = refl
rows_unmarked id (h ∷ hs) = by_id (eqb h.action id) (rows_unmarked id hs)
  where
    by_id : (b : Bool) → rows_at id (map unmarked hs) ≡ map unmarked_row (rows_at id hs) → cond b (map unmarked_row h.rows) (rows_at id (map unmarked hs)) ≡ map unmarked_row (cond b h.rows (rows_at id hs))
    by_id true next = refl
    by_id false next = next

-- the rows of an action differ at most in marks
pub rows_marked : (id : ℕ) (hs marked : List PlainHistory) → AreMarked hs marked → map unmarked_row (rows_at id marked) ≡ map unmarked_row (rows_at id hs)
rows_marked id hs marked are = sym (rows_unmarked id marked) ∙ ap (rows_at id) are ∙ rows_unmarked id hs

-- tallies stand for rows with marks
pub all_stand_marked : (ts : List ActionTally) (hs marked : List PlainHistory) → AreMarked hs marked → AllStand ts hs → AllStand ts marked
all_stand_marked ts hs marked are = All-weaker (λ (t : ActionTally). StandsFor t.tally t.retries (rows_at t.action hs)) (λ (t : ActionTally). StandsFor t.tally t.retries (rows_at t.action marked))
    (λ t stands. stands_marked t.tally t.retries (rows_at t.action hs) (rows_at t.action marked) (rows_marked t.action hs marked are) stands) ts
