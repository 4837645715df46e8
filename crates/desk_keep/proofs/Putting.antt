-- What becomes of rows as one is put. Other crates may cite these lemmas.
use Rattle.std.proofs.Common.{◌≡◌, List, [], ◌∷◌, ◌++◌, map, Bool, true, false, cond, filter, All, Some, None, IfSome, Result, Ok, Err, OnOk, OnErr, refl, sym, ap, ◌∙◌, subst}
use Rattle.std.specs.declared.option.Option.{Option}
use Rattle.std.specs.declared.cmp.Ordering.{Ordering}
use Rattle.std.specs.declared.cmp.Ordering.TheVariants.{Less, Equal, Greater}
use Rattle.std.specs.Ordering.{is_lt, is_eq, ordering_reverse}
use Rattle.std.specs.Option.{option_or}
use Rattle.std.specs.List.{AllByRecursion}
use Rattle.std.specs.List.Sorted.{IsStrictlySortedBy}
use Rattle.std.proofs.lemmas.List.Elements.{All-append, All-cons, All-filter, All-head, All-tail}
use Rattle.desk_keep.specs.declared.change.Change.{Change}
use Rattle.desk_keep.specs.Keys.{Key, key_of, key_cmp, same_key}
use Rattle.desk_keep.specs.Forms.{Fits}
use Rattle.desk_keep.specs.Tables.{put, put_all, row_at, rows_below, rows_above, AreRows}
use Rattle.desk_keep.proofs.KeyOrder.{key_total, key_exact, same_exact, turned}
use Rattle.line_forms.proofs.Sorted.{sorted_with, sorted_filtered}

-- ---- the row of a key

row_at-append : (key : Key) (rows more : List Change) → row_at key (rows ++ more) ≡ option_or (row_at key rows) (row_at key more)
row_at-append key [] more = refl
row_at-append key (row ∷ rows) more =
    elim (same_key key (key_of row)) as (λ b. cond b (Some row) (row_at key (rows ++ more)) ≡ option_or (cond b (Some row) (row_at key rows)) (row_at key more)) [
      | true ↦ refl
      | false ↦ row_at-append key rows more
    ]

-- a filter that keeps each row of the key
row_at-kept : (p : Change → Bool) (key : Key) (rows : List Change) → ((row : Change) → key ≡ key_of row → p row ≡ true) → row_at key (filter p rows) ≡ row_at key rows
row_at-kept p key [] keeps = refl
row_at-kept p key (row ∷ rows) keeps =
    elim (same_key key (key_of row)) as (λ b. same_key key (key_of row) ≡ b → row_at key (filter p (row ∷ rows)) ≡ cond b (Some row) (row_at key rows)) [
      | true ↦ λ same.
          subst (λ b. row_at key (cond b (row ∷ filter p rows) (filter p rows)) ≡ Some row) (sym (keeps row (same_exact key (key_of row) same)))
          (ap (λ b. cond b (Some row) (row_at key (filter p rows))) same)
      | false ↦ λ other.
          elim (p row) as (λ b. row_at key (cond b (row ∷ filter p rows) (filter p rows)) ≡ row_at key rows) [
            | true ↦ ap (λ b. cond b (Some row) (row_at key (filter p rows))) other ∙ row_at-kept p key rows keeps
            | false ↦ row_at-kept p key rows keeps
          ]
    ] refl

-- a filter that drops each row of the key
row_at-dropped : (p : Change → Bool) (key : Key) (rows : List Change) → ((row : Change) → key ≡ key_of row → p row ≡ false) → row_at key (filter p rows) ≡ None
row_at-dropped p key [] drops = refl
row_at-dropped p key (row ∷ rows) drops =
    elim (same_key key (key_of row)) as (λ b. same_key key (key_of row) ≡ b → row_at key (filter p (row ∷ rows)) ≡ None) [
      | true ↦ λ same.
          subst (λ b. row_at key (cond b (row ∷ filter p rows) (filter p rows)) ≡ None) (sym (drops row (same_exact key (key_of row) same)))
          (row_at-dropped p key rows drops)
      | false ↦ λ other.
          elim (p row) as (λ b. row_at key (cond b (row ∷ filter p rows) (filter p rows)) ≡ None) [
            | true ↦ ap (λ b. cond b (Some row) (row_at key (filter p rows))) other ∙ row_at-dropped p key rows drops
            | false ↦ row_at-dropped p key rows drops
          ]
    ] refl

-- how two keys compare, as the tests of the rows below and above see it
is_below : (key other : Key) (o : Ordering) → key_cmp key other ≡ o → (row : Change) → key ≡ key_of row → is_lt (key_cmp (key_of row) other) ≡ is_lt o
is_below key other o e row is = ap (λ k. is_lt (key_cmp k other)) (sym is) ∙ ap is_lt e

is_above : (key other : Key) (o : Ordering) → key_cmp key other ≡ o → (row : Change) → key ≡ key_of row → is_lt (key_cmp other (key_of row)) ≡ is_lt (ordering_reverse o)
is_above key other o e row is = ap (λ k. is_lt (key_cmp other k)) (sym is) ∙ ap is_lt (turned key other ∙ ap ordering_reverse e)

option_or-none : (found : Option Change) → option_or found None ≡ found
option_or-none None = refl
option_or-none (Some row) = refl

-- A row that was put is found at its key, and each other key has what it had.
pub row_at-put : (key : Key) (row : Change) (rows : List Change) → row_at key (put row rows) ≡ cond (same_key key (key_of row)) (Some row) (row_at key rows)
row_at-put key row rows =
    row_at-append key (rows_below (key_of row) rows) (row ∷ rows_above (key_of row) rows)
    ∙ (elim (key_cmp key (key_of row)) as (λ o. key_cmp key (key_of row) ≡ o
    → option_or (row_at key (rows_below (key_of row) rows)) (cond (is_eq o) (Some row) (row_at key (rows_above (key_of row) rows))) ≡ cond (is_eq o) (Some row) (row_at key rows)) [
      | Less ↦ λ e.
          ap (λ found. option_or found (row_at key (rows_above (key_of row) rows))) (row_at-kept (λ r. is_lt (key_cmp (key_of r) (key_of row))) key rows (is_below key (key_of row) Less e))
          ∙ ap (option_or (row_at key rows)) (row_at-dropped (λ r. is_lt (key_cmp (key_of row) (key_of r))) key rows (is_above key (key_of row) Less e))
          ∙ option_or-none (row_at key rows)
      | Equal ↦ λ e.
          ap (λ found. option_or found (Some row)) (row_at-dropped (λ r. is_lt (key_cmp (key_of r) (key_of row))) key rows (is_below key (key_of row) Equal e))
      | Greater ↦ λ e.
          ap (λ found. option_or found (row_at key (rows_above (key_of row) rows))) (row_at-dropped (λ r. is_lt (key_cmp (key_of r) (key_of row))) key rows (is_below key (key_of row) Greater e))
          ∙ row_at-kept (λ r. is_lt (key_cmp (key_of row) (key_of r))) key rows (is_above key (key_of row) Greater e)
    ] refl)

-- ---- order and forms

pub AreRows-filter : (p : Change → Bool) (rows : List Change) → AreRows rows → AreRows (filter p rows)
AreRows-filter p rows are = record { ascending = sorted_filtered key_cmp key_of p rows are.ascending; fit = All-filter p Fits rows are.fit }

pub AreRows-put : (row : Change) (rows : List Change) → Fits row → AreRows rows → AreRows (put row rows)
AreRows-put row rows fits are = record {
  ascending = sorted_with key_total key_of row rows are.ascending;
  fit = All-append Fits (rows_below (key_of row) rows) (row ∷ rows_above (key_of row) rows) (All-filter (λ r. is_lt (key_cmp (key_of r) (key_of row))) Fits rows are.fit)
      (All-cons Fits row (rows_above (key_of row) rows) fits (All-filter (λ r. is_lt (key_cmp (key_of row) (key_of r))) Fits rows are.fit));
}

pub AreRows-put_all : (batch rows : List Change) → All Fits batch → AreRows rows → AreRows (put_all batch rows)
AreRows-put_all [] rows fit are = are
AreRows-put_all (row ∷ batch) rows fit are =
    AreRows-put_all batch (put row rows) (All-tail Fits row batch fit) (AreRows-put row rows (All-head Fits row batch fit) are)

-- a batch was put, or nothing
pub AreRows-tried : {T E : Type 0} (result : Result T E) (batch old new : List Change) → All Fits batch → AreRows old → OnOk result (new ≡ put_all batch old) → OnErr result (new ≡ old) → AreRows new
AreRows-tried (Ok t) batch old new fit are ok err = subst AreRows (sym ok) (AreRows-put_all batch old fit are)
AreRows-tried (Err e) batch old new fit are ok err = subst AreRows (sym err) are

-- ---- rows in order fall into those below a key, that of the key, and those above it

-- all keys are above this one
abbrev pub AreAbove : Key → List Change → Type 0
AreAbove key rows = AllByRecursion (λ other. key_cmp key other ≡ Less) (map key_of rows)

pub above_trans : (key other : Key) (rows : List Change) → key_cmp key other ≡ Less → AreAbove other rows → AreAbove key rows
above_trans key other [] less above = tt
above_trans key other (row ∷ rows) less above = (key_total.trans key other (key_of row) less above.0, above_trans key other rows less above.1)

pub none_below : (key : Key) (rows : List Change) → AreAbove key rows → rows_below key rows ≡ []
none_below key [] above = refl
none_below key (row ∷ rows) above =
    subst (λ o. cond (is_lt o) (row ∷ rows_below key rows) (rows_below key rows) ≡ []) (sym (turned key (key_of row) ∙ ap ordering_reverse above.0)) (none_below key rows above.1)

pub all_above : (key : Key) (rows : List Change) → AreAbove key rows → rows_above key rows ≡ rows
all_above key [] above = refl
all_above key (row ∷ rows) above =
    subst (λ o. cond (is_lt o) (row ∷ rows_above key rows) (rows_above key rows) ≡ row ∷ rows) (sym above.0) (ap (λ l. row ∷ l) (all_above key rows above.1))

pub none_at : (key : Key) (rows : List Change) → AreAbove key rows → row_at key rows ≡ None
none_at key [] above = refl
none_at key (row ∷ rows) above = subst (λ o. cond (is_eq o) (Some row) (row_at key rows) ≡ None) (sym above.0) (none_at key rows above.1)

-- the rows around that of a key, if there is one
abbrev pub around : Option Change → List Change → List Change → List Change
around None before behind = before ++ behind
around (Some row) before behind = before ++ row ∷ behind

around-cons : (found : Option Change) (row : Change) (before behind : List Change) → around found (row ∷ before) behind ≡ row ∷ around found before behind
around-cons None row before behind = refl
around-cons (Some other) row before behind = refl

pub split : (key : Key) (rows : List Change) → IsStrictlySortedBy key_cmp (map key_of rows) → rows ≡ around (row_at key rows) (rows_below key rows) (rows_above key rows)
unfolding IsStrictlySortedBy
split key [] sorted = refl
split key (row ∷ rows) sorted =
    elim (key_cmp key (key_of row)) as (λ o. key_cmp key (key_of row) ≡ o
    → row ∷ rows ≡ around (cond (is_eq o) (Some row) (row_at key rows)) (rows_below key (row ∷ rows)) (cond (is_lt o) (row ∷ rows_above key rows) (rows_above key rows))) [
      | Less ↦ λ e.
          let above = above_trans key (key_of row) rows e sorted.0 in
          sym (ap (λ found. around found (rows_below key (row ∷ rows)) (row ∷ rows_above key rows)) (none_at key rows above)
          ∙ ap (λ l. l ++ row ∷ rows_above key rows) (none_below key (row ∷ rows) (e, above)) ∙ ap (λ l. row ∷ l) (all_above key rows above))
      | Equal ↦ λ e.
          let above : AreAbove key rows = subst (λ k. AreAbove k rows) (sym (key_exact key (key_of row) e)) sorted.0 in
          let below : rows_below key (row ∷ rows) ≡ [] =
          subst (λ o. cond (is_lt o) (row ∷ rows_below key rows) (rows_below key rows) ≡ []) (sym (turned key (key_of row) ∙ ap ordering_reverse e)) (none_below key rows above) in
          sym (ap (λ l. l ++ row ∷ rows_above key rows) below ∙ ap (λ l. row ∷ l) (all_above key rows above))
      | Greater ↦ λ e.
          let below : rows_below key (row ∷ rows) ≡ row ∷ rows_below key rows =
          ap (λ o. cond (is_lt o) (row ∷ rows_below key rows) (rows_below key rows)) (turned key (key_of row) ∙ ap ordering_reverse e) in
          ap (λ l. row ∷ l) (split key rows sorted.1) ∙ sym (ap (λ l. around (row_at key rows) l (rows_above key rows)) below ∙ around-cons (row_at key rows) row (rows_below key rows) (rows_above key rows))
    ] refl

-- ---- a row put before, over or behind the first one

module _ (row here : Change) (rest : List Change) (sorted : IsStrictlySortedBy key_cmp (map key_of (here ∷ rest))) where
  pub put-before : key_cmp (key_of row) (key_of here) ≡ Less → put row (here ∷ rest) ≡ row ∷ here ∷ rest
  unfolding IsStrictlySortedBy
  put-before e =
      let above : AreAbove (key_of row) (here ∷ rest) = (e, above_trans (key_of row) (key_of here) rest e sorted.0) in
      ap (λ l. l ++ row ∷ rows_above (key_of row) (here ∷ rest)) (none_below (key_of row) (here ∷ rest) above)
      ∙ ap (λ l. row ∷ l) (all_above (key_of row) (here ∷ rest) above)

  pub put-over : key_cmp (key_of row) (key_of here) ≡ Equal → put row (here ∷ rest) ≡ row ∷ rest
  unfolding IsStrictlySortedBy
  put-over e =
      let above : AreAbove (key_of row) rest = subst (λ k. AreAbove k rest) (sym (key_exact (key_of row) (key_of here) e)) sorted.0 in
      let below : rows_below (key_of row) (here ∷ rest) ≡ [] =
      subst (λ o. cond (is_lt o) (here ∷ rows_below (key_of row) rest) (rows_below (key_of row) rest) ≡ []) (sym (turned (key_of row) (key_of here) ∙ ap ordering_reverse e)) (none_below (key_of row) rest above) in
      let behind : rows_above (key_of row) (here ∷ rest) ≡ rest =
      subst (λ o. cond (is_lt o) (here ∷ rows_above (key_of row) rest) (rows_above (key_of row) rest) ≡ rest) (sym e) (all_above (key_of row) rest above) in
      ap (λ l. l ++ row ∷ rows_above (key_of row) (here ∷ rest)) below ∙ ap (λ l. row ∷ l) behind

  pub put-behind : key_cmp (key_of row) (key_of here) ≡ Greater → put row (here ∷ rest) ≡ here ∷ put row rest
  put-behind e =
      let below : rows_below (key_of row) (here ∷ rest) ≡ here ∷ rows_below (key_of row) rest =
      ap (λ o. cond (is_lt o) (here ∷ rows_below (key_of row) rest) (rows_below (key_of row) rest)) (turned (key_of row) (key_of here) ∙ ap ordering_reverse e) in
      let behind : rows_above (key_of row) (here ∷ rest) ≡ rows_above (key_of row) rest =
      ap (λ o. cond (is_lt o) (here ∷ rows_above (key_of row) rest) (rows_above (key_of row) rest)) e in
      ap (λ l. l ++ row ∷ rows_above (key_of row) (here ∷ rest)) below ∙ ap (λ l. here ∷ (rows_below (key_of row) rest ++ row ∷ l)) behind

-- a row that is found has the key, and its form
pub found_key : (key : Key) (rows : List Change) (row : Change) → row_at key rows ≡ Some row → key_of row ≡ key
found_key key [] row found = cc
found_key key (here ∷ rows) row found =
    elim (same_key key (key_of here)) as (λ b. same_key key (key_of here) ≡ b → cond b (Some here) (row_at key rows) ≡ Some row → key_of row ≡ key) [
      | true ↦ λ same is.
          let one : here ≡ row = cc in
          sym (same_exact key (key_of here) same ∙ ap key_of one)
      | false ↦ λ other is. found_key key rows row is
    ] refl found

pub found_fits : (key : Key) (rows : List Change) (row : Change) → All Fits rows → row_at key rows ≡ Some row → Fits row
found_fits key [] row fit found = cc
found_fits key (here ∷ rows) row fit found =
    elim (same_key key (key_of here)) as (λ b. cond b (Some here) (row_at key rows) ≡ Some row → Fits row) [
      | true ↦ λ is.
          let one : here ≡ row = cc in
          subst Fits one (All-head Fits here rows fit)
      | false ↦ λ is. found_fits key rows row (All-tail Fits here rows fit) is
    ] found

pub fits_found : (key : Key) (rows : List Change) (found : Option Change) → All Fits rows → found ≡ row_at key rows → IfSome found Fits
fits_found key rows None fit is = tt
fits_found key rows (Some row) fit is = found_fits key rows row fit (sym is)
