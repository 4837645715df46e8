-- Rows in series go by their ends alone.
use Rattle.std.proofs.Common.{ℕ, suc, ◌≡◌, ◌+◌, ◌-◌, ℤ, List, [], ◌∷◌, ◌++◌, length, Bool, true, false, cond, refl, sym, ap, ◌∙◌, Option, Some, None}
use Rattle.std.specs.Prelude.{map, is_some}
use Rattle.act_rules.specs.declared.row.Row.{Row}
use Rattle.act_rules.specs.declared.row.Outcome.{Outcome}
use Rattle.act_rules.specs.declared.tally.Tally.{Tally}
use Rattle.act_rules.specs.Rows.{with_last}
use Rattle.act_rules.specs.Series.{end_closes, closes, begun_series, series_after, series, last_series, closed_after}
use Rattle.act_rules.specs.Tallies.{Counts, StandsFor, ended_rows}

abbrev End : Type 0
End = Option (ℤ × Outcome)

abbrev ends : List Row → List End
ends rows = map (λ row. row.end) rows

abbrev begun_ends : List End → List (List End)
begun_ends [] = []
begun_ends (e ∷ es) = (e ∷ es) ∷ []

-- the same series, of ends
abbrev ends_after : ℕ → List End → List End → List (List End)
ends_after r front [] = begun_ends front
ends_after r front (e ∷ es) =
    cond (end_closes r (length front) e) ((front ++ e ∷ []) ∷ ends_after r [] es) (ends_after r (front ++ e ∷ []) es)

abbrev last_ends : List (List End) → List End
last_ends [] = []
last_ends (s ∷ []) = s
last_ends (s ∷ t ∷ ss) = last_ends (t ∷ ss)

abbrev closed_ends : ℕ → ℕ → List End → Bool
closed_ends r n [] = false
closed_ends r n (e ∷ []) = end_closes r n e
closed_ends r n (e ∷ f ∷ es) = closed_ends r (n + 1) (f ∷ es)

ends_snoc : (rows : List Row) (row : Row) → ends (rows ++ row ∷ []) ≡ ends rows ++ row.end ∷ []
ends_snoc [] row = refl
ends_snoc (x ∷ rows) row = ap (λ es. x.end ∷ es) (ends_snoc rows row)

ends_length : (rows : List Row) → length (ends rows) ≡ length rows
ends_length [] = refl
ends_length (x ∷ rows) = ap suc (ends_length rows)

begun_is : (front : List Row) → map (λ s. ends s) (begun_series front) ≡ begun_ends (ends front)
begun_is [] = refl
begun_is (x ∷ front) = refl

cond_is : (b : Bool) (t u : List (List Row)) (v w : List (List End)) → map (λ s. ends s) t ≡ v → map (λ s. ends s) u ≡ w → map (λ s. ends s) (cond b t u) ≡ cond b v w
cond_is true t u v w h k = h
cond_is false t u v w h k = k

after_is : (r : ℕ) (front rows : List Row) → map (λ s. ends s) (series_after r front rows) ≡ ends_after r (ends front) (ends rows)
after_is r front [] = begun_is front
after_is r front (q ∷ rows) =
    cond_is (closes r (length front) q) _ _ ((ends front ++ q.end ∷ []) ∷ ends_after r [] (ends rows)) (ends_after r (ends front ++ q.end ∷ []) (ends rows))
    (ap (λ s. s ∷ map (λ s. ends s) (series_after r [] rows)) (ends_snoc front q) ∙ ap (λ ss. (ends front ++ q.end ∷ []) ∷ ss) (after_is r [] rows))
    (after_is r (front ++ q ∷ []) rows ∙ ap (λ f. ends_after r f (ends rows)) (ends_snoc front q))
    ∙ ap (λ n. cond (end_closes r n q.end) ((ends front ++ q.end ∷ []) ∷ ends_after r [] (ends rows)) (ends_after r (ends front ++ q.end ∷ []) (ends rows))) (sym (ends_length front))

count_is : (ss : List (List Row)) → length (map (λ s. ends s) ss) ≡ length ss
count_is [] = refl
count_is (s ∷ ss) = ap suc (count_is ss)

last_is : (ss : List (List Row)) → last_ends (map (λ s. ends s) ss) ≡ ends (last_series ss)
last_is [] = refl
last_is (s ∷ []) = refl
last_is (s ∷ t ∷ ss) = last_is (t ∷ ss)

closed_is : (r n : ℕ) (rows : List Row) → closed_ends r n (ends rows) ≡ closed_after r n rows
closed_is r n [] = refl
closed_is r n (x ∷ []) = refl
closed_is r n (x ∷ y ∷ rows) = closed_is r (n + 1) (y ∷ rows)

-- what is counted goes by the ends
pub counts_by_ends : (tally : Tally) (r : ℕ) (xs ys : List Row) → ends xs ≡ ends ys → Counts tally r xs → Counts tally r ys
counts_by_ends tally r xs ys h c =
    let e : map (λ s. ends s) (series r xs) ≡ map (λ s. ends s) (series r ys) = after_is r [] xs ∙ ap (ends_after r []) h ∙ sym (after_is r [] ys) in
    let l : ends (last_series (series r xs)) ≡ ends (last_series (series r ys)) = sym (last_is (series r xs)) ∙ ap last_ends e ∙ last_is (series r ys) in
    record {
      under = c.under;
      number = c.number ∙ sym (count_is (series r xs)) ∙ ap length e ∙ count_is (series r ys);
      last = c.last ∙ ap (λ n. n - 1) (sym (ends_length (last_series (series r xs))) ∙ ap length l ∙ ends_length (last_series (series r ys)));
      closed = c.closed ∙ sym (closed_is r 0 (last_series (series r xs))) ∙ ap (closed_ends r 0) l ∙ closed_is r 0 (last_series (series r ys));
    }

cond_ends : (b : Bool) (x : Row) (xs ys : List Row) → ends xs ≡ ends ys → ends (cond b (x ∷ xs) xs) ≡ ends (cond b (x ∷ ys) ys)
cond_ends true x xs ys h = ap (λ es. x.end ∷ es) h
cond_ends false x xs ys h = h

same_end : (x y : Row) (e f : End) → x.end ≡ e → y.end ≡ f → e ≡ f → ends (cond (is_some e) (x ∷ []) []) ≡ ends (cond (is_some f) (y ∷ []) [])
same_end x y None None h k g = refl
same_end x y None (Some f) h k g = cc
same_end x y (Some e) None h k g = cc
same_end x y (Some e) (Some f) h k g = ap (λ o. o ∷ []) (h ∙ g ∙ sym k)

ended_with : (rows : List Row) (change : Row → Row) → ((row : Row) → (change row).end ≡ row.end) → ends (ended_rows rows) ≡ ends (ended_rows (with_last rows change))
ended_with [] change k = refl
ended_with (x ∷ []) change k = same_end x (change x) x.end (change x).end refl refl (sym (k x))
ended_with (x ∷ y ∷ rows) change k = cond_ends (is_some x.end) x (ended_rows (y ∷ rows)) _ (ended_with (y ∷ rows) change k)

-- a last row that keeps its end is counted as before
pub stands_with : (tally : Tally) (r : ℕ) (rows : List Row) (change : Row → Row) → ((row : Row) → (change row).end ≡ row.end) → StandsFor tally r rows → StandsFor tally r (with_last rows change)
stands_with tally r rows change k stands = counts_by_ends tally r _ _ (ended_with rows change k) stands
