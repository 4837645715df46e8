-- A row that was put is taken back.
use Rattle.std.proofs.Common.{◌≡◌, ℕ, ◌+◌, ◌<◌, length, get_or, List, [], ◌∷◌, ◌++◌, map, Bool, true, false, cond, not, filter, Some, None, Result, Ok, Err, OnOk, OnErr, refl, sym, ap, ◌∙◌, subst, take}
use Rattle.std.specs.declared.option.Option.{Option}
use Rattle.std.specs.declared.cmp.Ordering.{Ordering}
use Rattle.std.specs.declared.cmp.Ordering.TheVariants.{Less, Equal, Greater}
use Rattle.std.specs.Ordering.{is_lt, is_eq, ordering_reverse}
use Rattle.std.specs.List.Sorted.{IsStrictlySortedBy}
use Rattle.std.proofs.lemmas.List.Elements.{filter-append}
use Rattle.std.proofs.lemmas.Cmp.{tied_itself}
use Rattle.std.proofs.Common.{append-nil}
use Rattle.std.proofs.lemmas.List.{take_more, same_from_push, length-append}
use Rattle.desk_keep.specs.declared.change.Change.{Change}
use Rattle.desk_keep.specs.Keys.{Key, key_of, key_cmp, same_key}
use Rattle.desk_keep.specs.Tables.{put, put_all, row_at, rows_below, rows_above, AreRows}
use Rattle.desk_keep.specs.Inside.{without, stood_before, WerePut}
use Rattle.desk_keep.proofs.KeyOrder.{key_total, turned, same_itself}
use Rattle.desk_keep.proofs.Putting.{AreAbove, above_trans, none_below, all_above, split, around, found_key, row_at-put}

-- ---- what stands below and above a key after a row was put at it

-- what a filter kept it keeps again
filter-again : (p : Change → Bool) (rows : List Change) → filter p (filter p rows) ≡ filter p rows
filter-again p [] = refl
filter-again p (row ∷ rows) =
    elim (p row) as (λ b. p row ≡ b → filter p (cond b (row ∷ filter p rows) (filter p rows)) ≡ cond b (row ∷ filter p rows) (filter p rows)) [
      | true ↦ λ passes. ap (λ b. cond b (row ∷ filter p (filter p rows)) (filter p (filter p rows))) passes ∙ ap (λ l. row ∷ l) (filter-again p rows)
      | false ↦ λ fails. filter-again p rows
    ] refl

-- what one filter kept the other drops
filter-other : (p q : Change → Bool) (rows : List Change) → ((row : Change) → q row ≡ true → p row ≡ false) → filter p (filter q rows) ≡ []
filter-other p q [] drops = refl
filter-other p q (row ∷ rows) drops =
    elim (q row) as (λ b. q row ≡ b → filter p (cond b (row ∷ filter q rows) (filter q rows)) ≡ []) [
      | true ↦ λ passes. ap (λ b. cond b (row ∷ filter p (filter q rows)) (filter p (filter q rows))) (drops row passes) ∙ filter-other p q rows drops
      | false ↦ λ fails. filter-other p q rows drops
    ] refl

lt_turned : (o : Ordering) → is_lt o ≡ true → is_lt (ordering_reverse o) ≡ false
lt_turned Less h = refl
lt_turned Equal h = cc
lt_turned Greater h = cc

not_below : (key : Key) (row : Change) → is_lt (key_cmp key (key_of row)) ≡ true → is_lt (key_cmp (key_of row) key) ≡ false
not_below key row above = ap is_lt (turned key (key_of row)) ∙ lt_turned (key_cmp key (key_of row)) above

not_above : (key : Key) (row : Change) → is_lt (key_cmp (key_of row) key) ≡ true → is_lt (key_cmp key (key_of row)) ≡ false
not_above key row below = ap is_lt (turned (key_of row) key) ∙ lt_turned (key_cmp (key_of row) key) below

tied : (row : Change) → is_lt (key_cmp (key_of row) (key_of row)) ≡ false
tied row = ap is_lt (tied_itself key_total (key_of row))

pub below-put : (row : Change) (rows : List Change) → rows_below (key_of row) (put row rows) ≡ rows_below (key_of row) rows
below-put row rows =
    let p : Change → Bool = λ r. is_lt (key_cmp (key_of r) (key_of row)) in
    filter-append p (rows_below (key_of row) rows) (row ∷ rows_above (key_of row) rows)
    ∙ ap (λ l. l ++ filter p (row ∷ rows_above (key_of row) rows)) (filter-again p rows)
    ∙ ap (λ b. rows_below (key_of row) rows ++ cond b (row ∷ filter p (rows_above (key_of row) rows)) (filter p (rows_above (key_of row) rows))) (tied row)
    ∙ ap (λ l. rows_below (key_of row) rows ++ l) (filter-other p (λ r. is_lt (key_cmp (key_of row) (key_of r))) rows (not_below (key_of row)))
    ∙ append-nil (rows_below (key_of row) rows)

pub above-put : (row : Change) (rows : List Change) → rows_above (key_of row) (put row rows) ≡ rows_above (key_of row) rows
above-put row rows =
    let q : Change → Bool = λ r. is_lt (key_cmp (key_of row) (key_of r)) in
    filter-append q (rows_below (key_of row) rows) (row ∷ rows_above (key_of row) rows)
    ∙ ap (λ l. l ++ filter q (row ∷ rows_above (key_of row) rows)) (filter-other q (λ r. is_lt (key_cmp (key_of r) (key_of row))) rows (not_above (key_of row)))
    ∙ ap (λ b. cond b (row ∷ filter q (rows_above (key_of row) rows)) (filter q (rows_above (key_of row) rows))) (tied row)
    ∙ filter-again q rows

-- ---- rows without that of a key

pub without-above : (key : Key) (rows : List Change) → AreAbove key rows → without key rows ≡ rows
without-above key [] above = refl
without-above key (row ∷ rows) above =
    subst (λ o. cond (not (is_eq o)) (row ∷ without key rows) (without key rows) ≡ row ∷ rows) (sym above.0) (ap (λ l. row ∷ l) (without-above key rows above.1))

pub without-split : (key : Key) (rows : List Change) → IsStrictlySortedBy key_cmp (map key_of rows) → without key rows ≡ rows_below key rows ++ rows_above key rows
unfolding IsStrictlySortedBy
without-split key [] sorted = refl
without-split key (row ∷ rows) sorted =
    elim (key_cmp key (key_of row)) as (λ o. key_cmp key (key_of row) ≡ o
    → cond (not (is_eq o)) (row ∷ without key rows) (without key rows) ≡ rows_below key (row ∷ rows) ++ cond (is_lt o) (row ∷ rows_above key rows) (rows_above key rows)) [
      | Less ↦ λ e.
          let above = above_trans key (key_of row) rows e sorted.0 in
          ap (λ l. row ∷ l) (without-above key rows above ∙ sym (all_above key rows above))
          ∙ sym (ap (λ l. l ++ row ∷ rows_above key rows) (none_below key (row ∷ rows) (e, above)))
      | Equal ↦ λ e.
          without-split key rows sorted.1
          ∙ sym (ap (λ o. cond (is_lt o) (row ∷ rows_below key rows) (rows_below key rows) ++ rows_above key rows) (turned key (key_of row) ∙ ap ordering_reverse e))
      | Greater ↦ λ e.
          ap (λ l. row ∷ l) (without-split key rows sorted.1)
          ∙ sym (ap (λ o. cond (is_lt o) (row ∷ rows_below key rows) (rows_below key rows) ++ rows_above key rows) (turned key (key_of row) ∙ ap ordering_reverse e))
    ] refl

-- ---- taking back

-- where nothing stood at the key, the row is taken out
pub taken_out : (row : Change) (rows : List Change) → AreRows (put row rows) → AreRows rows → row_at (key_of row) rows ≡ None → without (key_of row) (put row rows) ≡ rows
taken_out row rows after before none =
    without-split (key_of row) (put row rows) after.ascending
    ∙ ap (λ l. l ++ rows_above (key_of row) (put row rows)) (below-put row rows)
    ∙ ap (λ l. rows_below (key_of row) rows ++ l) (above-put row rows)
    ∙ sym (split (key_of row) rows before.ascending ∙ ap (λ found. around found (rows_below (key_of row) rows) (rows_above (key_of row) rows)) none)

-- where a row stood at the key, it is put again
pub put_again : (row old : Change) (rows : List Change) → AreRows rows → row_at (key_of row) rows ≡ Some old → put old (put row rows) ≡ rows
put_again row old rows before some =
    let is : key_of old ≡ key_of row = found_key (key_of row) rows old some in
    ap (λ k. rows_below k (put row rows) ++ old ∷ rows_above k (put row rows)) is
    ∙ ap (λ l. l ++ old ∷ rows_above (key_of row) (put row rows)) (below-put row rows)
    ∙ ap (λ l. rows_below (key_of row) rows ++ old ∷ l) (above-put row rows)
    ∙ sym (split (key_of row) rows before.ascending ∙ ap (λ found. around found (rows_below (key_of row) rows) (rows_above (key_of row) rows)) some)

-- it can be put, since a row stands at its key
pub put_back : {E : Type 0} (row old : Change) (rows was now : List Change) (result : Result (Option Change) E) → AreRows rows → was ≡ put row rows → Some old ≡ row_at (key_of row) rows
    → OnOk result (now ≡ put old was) → OnErr result (row_at (key_of old) was ≡ None) → now ≡ rows
put_back row old rows was now (Ok before) are is some ok err = ok ∙ ap (put old) is ∙ put_again row old rows are (sym some)
put_back row old rows was now (Err e) are is some ok err =
    let one : key_of old ≡ key_of row = found_key (key_of row) rows old (sym some) in
    let there : row_at (key_of old) was ≡ Some row =
    ap (row_at (key_of old)) is ∙ row_at-put (key_of old) row rows
    ∙ ap (λ k. cond (same_key k (key_of row)) (Some row) (row_at (key_of old) rows)) one
    ∙ ap (λ b. cond b (Some row) (row_at (key_of old) rows)) (same_itself (key_of row)) in
    cc

-- ---- a batch, row by row

pub put_all-push : (batch : List Change) (row : Change) (rows : List Change) → put_all (batch ++ row ∷ []) rows ≡ put row (put_all batch rows)
put_all-push [] row rows = refl
put_all-push (first ∷ batch) row rows = put_all-push batch row (put first rows)

pub stood_before-push : (batch : List Change) (row : Change) (rows : List Change)
    → stood_before (batch ++ row ∷ []) rows ≡ stood_before batch rows ++ row_at (key_of row) (put_all batch rows) ∷ []
stood_before-push [] row rows = refl
stood_before-push (first ∷ batch) row rows = ap (λ l. row_at (key_of first) rows ∷ l) (stood_before-push batch row (put first rows))

-- one row more of a batch
module _ (batch : List Change) (i : ℕ) (d : Change) (start : List Change) (inside : i < length batch) where
  pub put_all-more : put_all (take (i + 1) batch) start ≡ put (get_or batch i d) (put_all (take i batch) start)
  put_all-more = ap (λ b. put_all b start) (take_more batch i d inside) ∙ put_all-push (take i batch) (get_or batch i d) start

  pub stood_before-more : stood_before (take (i + 1) batch) start ≡ stood_before (take i batch) start ++ row_at (key_of (get_or batch i d)) (put_all (take i batch) start) ∷ []
  stood_before-more = ap (λ b. stood_before b start) (take_more batch i d inside) ∙ stood_before-push (take i batch) (get_or batch i d) start

-- what the last row of those that were put found, and what was there before it
pub record StepsBack (batch : List Change) (before : List (Option Change)) (stood : Option Change) (d : Change) (start rows : List Change) : Type 0 where
  pub rest : before ≡ stood_before (take (length before) batch) start
  pub found : stood ≡ row_at (key_of (get_or batch (length before) d)) (put_all (take (length before) batch) start)
  pub put : rows ≡ put (get_or batch (length before) d) (put_all (take (length before) batch) start)

pub steps_back : (batch : List Change) (before : List (Option Change)) (stood : Option Change) (d : Change) (start rows : List Change) → length before < length batch
    → WerePut batch (before ++ stood ∷ []) start rows → StepsBack batch before stood d start rows
steps_back batch before stood d start rows inside were =
    let count : length (before ++ stood ∷ []) ≡ length before + 1 = length-append before (stood ∷ []) in
    let parts = same_from_push before (stood_before (take (length before) batch) start) stood (row_at (key_of (get_or batch (length before) d)) (put_all (take (length before) batch) start))
    (were.0 ∙ ap (λ n. stood_before (take n batch) start) count ∙ stood_before-more batch (length before) d start inside) in
    record {
      rest = parts.0;
      found = parts.1;
      put = were.1 ∙ ap (λ n. put_all (take n batch) start) count ∙ put_all-more batch (length before) d start inside;
    }

-- one row more was put
pub steps_on : (batch : List Change) (before : List (Option Change)) (stood : Option Change) (row : Change) (start rows new : List Change) → length before < length batch
    → row ≡ get_or batch (length before) row → stood ≡ row_at (key_of row) rows → new ≡ put row rows → WerePut batch before start rows → WerePut batch (before ++ stood ∷ []) start new
steps_on batch before stood row start rows new inside is found put_is were =
    let count : length (before ++ stood ∷ []) ≡ length before + 1 = length-append before (stood ∷ []) in (
      (λ i. were.0 i ++ (found ∙ (λ j. row_at (key_of (is j)) (were.1 j))) i ∷ []) ∙ sym (stood_before-more batch (length before) row start inside)
          ∙ ap (λ n. stood_before (take n batch) start) (sym count),
      put_is ∙ (λ i. put (is i) (were.1 i)) ∙ sym (put_all-more batch (length before) row start inside) ∙ ap (λ n. put_all (take n batch) start) (sym count),
    )
