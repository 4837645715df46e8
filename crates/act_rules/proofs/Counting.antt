-- What a tally counts, one row further.
use Rattle.std.proofs.Common.{ℕ, ◌≡◌, ◌≢◌, ◌+◌, ◌-◌, ◌^◌, ◌<◌, ◌≤◌, min, ℤ, List, [], ◌∷◌, ◌++◌, length, Bool, true, false, cond, refl, sym, ap, ◌∙◌, subst, arith, Option, Some, None, ◌⊎◌, inl, inr, take, get_or, length-append}
use Rattle.std.specs.Prelude.{is_some, IsSomeAnd}
use Rattle.std.proofs.lemmas.List.{take_more, length-take}
use Rattle.std.proofs.lemmas.List.Elements.{filter-append}
use Rattle.act_rules.specs.declared.row.Row.{Row}
use Rattle.act_rules.specs.declared.row.Outcome.{Outcome}
use Rattle.act_rules.specs.declared.tally.Tally.{Tally}
use Rattle.act_rules.specs.Rows.{last_row, with_last}
use Rattle.act_rules.specs.Series.{closes, outcome_closes, end_closes, series, last_series, closed_after, is_closed}
use Rattle.act_rules.specs.Tallies.{Counts, StandsFor, ended_rows}
use Rattle.act_rules.specs.Steps.{AddsRows}
use Rattle.act_rules.proofs.SeriesLemmas.{closed_snoc, grow, series_snoc, grow_new, grow_longer, few_series, short_series, last_some}
use Rattle.line_forms.proofs.Lasts.{last_step}

begins : (n m : ℕ) (b d : Bool) → n ≡ m → b ≡ d → (n ≡ 0) ⊎ (b ≡ true) → (m ≡ 0) ⊎ (d ≡ true)
begins n m b d e f (inl h) = inl (sym e ∙ h)
begins n m b d e f (inr h) = inr (sym f ∙ h)

-- the row begins a series
pub adds_new : (t : Tally) (n : ℕ) (b : Bool) (row : Row) (moment : ℤ) (outcome : Outcome) →
    n ≡ min (t.series + 1) (2 ^ 32 - 1) → b ≡ outcome_closes t.retries 0 outcome → (t.series ≡ 0) ⊎ (t.closed ≡ true) →
    row.end ≡ Some (moment, outcome) →
    AddsRows t (record { retries = t.retries; series = n; retried = 0; closed = b }) (row ∷ [])
adds_new t n b row moment outcome en eb h e r rows k c =
    let ss = series r rows in
    let g : series r (rows ++ row ∷ []) ≡ grow r row ss = series_snoc r rows row in
    let d = grow_new r row ss (begins t.series (length ss) t.closed (is_closed r rows) c.number c.closed h) in
    record {
      under = c.under;
      number = (let m : n ≡ length ss + 1 = omega (arith, en, c.number, few_series r rows, k) in m) ∙ sym d.0 ∙ sym (ap length g);
      last = sym (ap (λ x. length (last_series x) - 1) g ∙ ap (λ x. length x - 1) d.1);
      closed = eb ∙ ap (λ x. outcome_closes x 0 outcome) c.under ∙ sym (ap (λ x. closed_after r 0 (last_series x)) g ∙ ap (closed_after r 0) d.1 ∙ ap (end_closes r 0) e);
    }

-- the row belongs to the last series
pub adds_longer : (t : Tally) (n : ℕ) (b : Bool) (row : Row) (moment : ℤ) (outcome : Outcome) →
    n ≡ min (t.retried + 1) (2 ^ 32 - 1) → b ≡ outcome_closes t.retries n outcome → t.series ≢ 0 → t.closed ≡ false →
    row.end ≡ Some (moment, outcome) →
    AddsRows t (record { retries = t.retries; series = t.series; retried = n; closed = b }) (row ∷ [])
adds_longer t n b row moment outcome en eb h q e r rows k c =
    let ss = series r rows in
    let g : series r (rows ++ row ∷ []) ≡ grow r row ss = series_snoc r rows row in
    let some : 0 < length ss = omega (arith, c.number, h) in
    let d = grow_longer r row ss some (sym c.closed ∙ q) in
    let one : 0 < length (last_series ss) = last_some r rows some in
    let m : n ≡ length (last_series ss) = omega (arith, en, c.last, short_series r rows, k, one) in
    record {
      under = c.under;
      number = c.number ∙ sym d.0 ∙ sym (ap length g);
      last = (let p : n ≡ length (last_series ss ++ row ∷ []) - 1 = omega (arith, m, length-append (last_series ss) (row ∷ [])) in p) ∙ sym (ap (λ x. length x - 1) d.1) ∙ sym (ap (λ x. length (last_series x) - 1) g);
      closed = eb ∙ ap (λ x. outcome_closes x n outcome) c.under ∙ ap (λ x. outcome_closes r x outcome) m ∙ sym (ap (λ x. closed_after r 0 (last_series x)) g ∙ ap (closed_after r 0) d.1 ∙ closed_snoc r 0 (last_series ss) row ∙ ap (λ x. closes r x row) (omega arith) ∙ ap (end_closes r (length (last_series ss))) e);
    }

abbrev HasEnd : Row → Bool
HasEnd row = is_some row.end

pub ended_snoc : (rows : List Row) (row : Row) → ended_rows (rows ++ row ∷ []) ≡ ended_rows rows ++ ended_rows (row ∷ [])
ended_snoc rows row = filter-append (λ r. is_some r.end) rows (row ∷ [])

cond_few : (b : Bool) (row : Row) (xs : List Row) → length (cond b (row ∷ xs) xs) ≤ length xs + 1
cond_few true row xs = omega arith
cond_few false row xs = omega arith

ended_few : (rows : List Row) → length (ended_rows rows) ≤ length rows
ended_few [] = omega arith
ended_few (x ∷ rows) = omega (arith, cond_few (is_some x.end) x (ended_rows rows), ended_few rows)

-- the rows that have ended, one row further
pub ended_more : (rows : List Row) (i : ℕ) (d : Row) → i < length rows → ended_rows (take (i + 1) rows) ≡ ended_rows (take i rows) ++ ended_rows (get_or rows i d ∷ [])
ended_more rows i d h = ap ended_rows (take_more rows i d h) ∙ ended_snoc (take i rows) (get_or rows i d)

pub ended_less : (rows : List Row) (i : ℕ) → i < length rows → length (ended_rows (take i rows)) ≤ i
ended_less rows i h = omega (arith, ended_few (take i rows), length-take i rows)

ended_alone : (row : Row) (e : Option (ℤ × Outcome)) (end : ℤ × Outcome) → row.end ≡ e → e ≡ Some end → ended_rows (row ∷ []) ≡ row ∷ []
ended_alone row e end h k = ap (λ (o : Option (ℤ × Outcome)). cond (is_some o) (row ∷ []) []) (h ∙ k)

none_alone : (row : Row) → row.end ≡ None → ended_rows (row ∷ []) ≡ []
none_alone row h = ap (λ (o : Option (ℤ × Outcome)). cond (is_some o) (row ∷ []) []) h

-- one more row that has ended
pub stands_added : (old new : Tally) (retries : ℕ) (rows : List Row) (row : Row) (end : ℤ × Outcome) → AddsRows old new (row ∷ []) →
    length (rows ++ row ∷ []) < 2 ^ 32 → row.end ≡ Some end → StandsFor old retries rows → StandsFor new retries (rows ++ row ∷ [])
stands_added old new retries rows row end adds few e stands =
    let P : List Row → Type 0 = λ r. Counts new retries r in
    let f : length (ended_rows rows) + 1 < 2 ^ 32 = omega (arith, few, ended_few rows, length-append rows (row ∷ [])) in
    subst P (sym (ended_snoc rows row ∙ ap (λ r. ended_rows rows ++ r) (ended_alone row row.end end refl e))) (adds retries (ended_rows rows) f stands)

-- the last row, which ran, has ended
with_ended : (rows : List Row) (change : Row → Row) (end : ℤ × Outcome) → IsSomeAnd (last_row rows) (λ row. row.end ≡ None) → ((row : Row) → (change row).end ≡ Some end) →
    (row : Row) × (row.end ≡ Some end) × (ended_rows (with_last rows change) ≡ ended_rows rows ++ row ∷ []) × (length (ended_rows rows) + 1 ≤ length rows)
with_ended [] change end h k = absurd h
with_ended (x ∷ []) change end h k =
    (change x, k x, ended_alone (change x) (change x).end end refl (k x) ∙ ap (λ r. r ++ change x ∷ []) (sym (none_alone x h)), omega (arith, ap length (none_alone x h)))
with_ended (x ∷ y ∷ rows) change end h k =
    let P : Option Row → Type 0 = λ o. IsSomeAnd o (λ row. row.end ≡ None) in
    let w = with_ended (y ∷ rows) change end (subst P (sym (last_step x y rows)) h) k in
    (w.0, w.1, cond_append (is_some x.end) x _ (ended_rows (y ∷ rows)) w.0 w.2, omega (arith, w.3, cond_few (is_some x.end) x (ended_rows (y ∷ rows))))
  where
    cond_append : (b : Bool) (x : Row) (xs ys : List Row) (row : Row) → xs ≡ ys ++ row ∷ [] → cond b (x ∷ xs) xs ≡ cond b (x ∷ ys) ys ++ row ∷ []
    cond_append true x xs ys row e = ap (λ r. x ∷ r) e
    cond_append false x xs ys row e = e

pub stands_ended : (old new : Tally) (retries : ℕ) (rows : List Row) (change : Row → Row) (end : ℤ × Outcome) → ((row : Row) → row.end ≡ Some end → AddsRows old new (row ∷ [])) →
    length rows < 2 ^ 32 → IsSomeAnd (last_row rows) (λ row. row.end ≡ None) → ((row : Row) → (change row).end ≡ Some end) → StandsFor old retries rows → StandsFor new retries (with_last rows change)
stands_ended old new retries rows change end adds few h k stands =
    let w = with_ended rows change end h k in
    let P : List Row → Type 0 = λ r. Counts new retries r in
    let f : length (ended_rows rows) + 1 < 2 ^ 32 = omega (arith, few, w.3) in
    subst P (sym w.2) (adds w.0 w.1 retries (ended_rows rows) f stands)

-- a row that runs isn't counted
pub stands_running : (tally : Tally) (retries : ℕ) (rows : List Row) (row : Row) → row.end ≡ None → StandsFor tally retries rows → StandsFor tally retries (rows ++ row ∷ [])
stands_running tally retries rows row h stands =
    let P : List Row → Type 0 = λ r. Counts tally retries r in
    subst P (sym (ended_snoc rows row ∙ ap (λ r. ended_rows rows ++ r) (none_alone row h) ∙ no_more (ended_rows rows))) stands
  where
    no_more : (xs : List Row) → xs ++ [] ≡ xs
    no_more [] = refl
    no_more (x ∷ xs) = ap (λ r. x ∷ r) (no_more xs)

-- a row that has ended is counted
pub adds_ended : (old new : Tally) (row : Row) (end : ℤ × Outcome) → row.end ≡ Some end → AddsRows old new (row ∷ []) → AddsRows old new (ended_rows (row ∷ []))
adds_ended old new row end e adds =
    let P : List Row → Type 0 = λ r. AddsRows old new r in
    subst P (sym (ended_alone row row.end end refl e)) adds
