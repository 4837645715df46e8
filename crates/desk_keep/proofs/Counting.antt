-- How many rows of a table there are after one is put or taken out.
use Rattle.std.proofs.Common.{◌≡◌, ◌≢◌, ℕ, ◌+◌, ◌<◌, ◌≤◌, inl, inr, slice_index_or, slice_set, List, [], ◌∷◌, ◌++◌, Bool, true, false, ◌&&◌, nat_eq, cond, Some, None, count_by, length, refl, sym, ap, ◌∙◌, arith}
use Rattle.std.specs.declared.option.Option.{Option}
use Rattle.std.specs.Option.{is_none, is_some}
use Rattle.std.proofs.lemmas.Bool.{cases_eq, eq-eqb}
use Rattle.std.proofs.lemmas.Bool.Decides.{eqb_tells}
use Rattle.std.proofs.lemmas.List.{get_or-set_other}
use Rattle.std.proofs.lemmas.Grind.{get_or-set_at}
use Rattle.std.proofs.lemmas.List.Sums.{sum_by-cons, sum_by-append}
use Rattle.desk_keep.specs.declared.change.Change.{Change}
use Rattle.desk_keep.specs.declared.table.Table.{Table}
use Rattle.desk_keep.specs.declared.table.Table.TheVariants as table
use Rattle.desk_keep.specs.Keys.{Key, key_of, table_number}
use Rattle.desk_keep.specs.Tables.{put, row_at, rows_below, rows_above, is_of, AreRows}
use Rattle.desk_keep.specs.Inside.{without, AreCounts}
use Rattle.desk_keep.proofs.Putting.{split, around, found_key}
use Rattle.desk_keep.proofs.Undoing.{without-split}

-- one for a row of the table, else none
abbrev pub one_of : Table → Change → ℕ
one_of table row = cond (is_of table row) 1 0

abbrev pub one_found : Table → Option Change → ℕ
one_found table None = 0
one_found table (Some row) = one_of table row

count-between : (table : Table) (before : List Change) (row : Change) (behind : List Change)
    → count_by (is_of table) (before ++ row ∷ behind) ≡ count_by (is_of table) (before ++ behind) + one_of table row
count-between table before row behind =
    let f : Change → ℕ = λ r. cond (is_of table r) 1 0 in
    let whole : count_by (is_of table) (before ++ row ∷ behind) ≡ count_by (is_of table) before + count_by (is_of table) (row ∷ behind) = sum_by-append f before (row ∷ behind) in
    let cons : count_by (is_of table) (row ∷ behind) ≡ one_of table row + count_by (is_of table) behind = sum_by-cons f row behind in
    let rest : count_by (is_of table) (before ++ behind) ≡ count_by (is_of table) before + count_by (is_of table) behind = sum_by-append f before behind in
    omega (arith, whole, cons, rest)

count-around : (table : Table) (found : Option Change) (before behind : List Change)
    → count_by (is_of table) (around found before behind) ≡ count_by (is_of table) (before ++ behind) + one_found table found
count-around table None before behind = omega arith
count-around table (Some row) before behind = count-between table before row behind

-- the rows, and those without that of the key
pub count-without : (table : Table) (key : Key) (rows : List Change) → AreRows rows
    → count_by (is_of table) rows ≡ count_by (is_of table) (without key rows) + one_found table (row_at key rows)
count-without table key rows are =
    ap (count_by (is_of table)) (split key rows are.ascending)
    ∙ count-around table (row_at key rows) (rows_below key rows) (rows_above key rows)
    ∙ ap (λ l. count_by (is_of table) l + one_found table (row_at key rows)) (sym (without-split key rows are.ascending))

-- the rows with one that was put, and what stood at its key
pub count-put : (table : Table) (row : Change) (rows : List Change) → AreRows rows
    → count_by (is_of table) (put row rows) + one_found table (row_at (key_of row) rows) ≡ count_by (is_of table) rows + one_of table row
count-put table row rows are =
    let put_is = count-between table (rows_below (key_of row) rows) row (rows_above (key_of row) rows) in
    let rows_are = ap (count_by (is_of table)) (split (key_of row) rows are.ascending)
    ∙ count-around table (row_at (key_of row) rows) (rows_below (key_of row) rows) (rows_above (key_of row) rows) in
    omega (arith, put_is, rows_are)

-- a row that stands at a key is of the table of its key
pub one_found_at : (table : Table) (row old : Change) (rows : List Change) → row_at (key_of row) rows ≡ Some old → one_of table old ≡ one_of table row
one_found_at table row old rows found =
    ap (λ (key : Key). cond (nat_eq key.table (table_number table)) 1 0) (found_key (key_of row) rows old found)

-- a test as a number
abbrev pub flag : Bool → ℕ
flag b = cond b 1 0

one_and : (a b : Bool) → flag (a && b) ≡ cond b (flag a) 0
one_and true true = refl
one_and true false = refl
one_and false true = refl
one_and false false = refl

-- as the law says it
new_row : (table : Table) (row : Change) (rows : List Change) (count : ℕ) (found : Option Change) → row_at (key_of row) rows ≡ found
    → count + one_found table found ≡ count_by (is_of table) rows + one_of table row
    → count ≡ count_by (is_of table) rows + cond (is_of table row && is_none found) 1 0
new_row table row rows count None is h =
    let e = one_and (is_of table row) true in
    omega (arith, h, e)
new_row table row rows count (Some old) is h =
    let e = one_and (is_of table row) false in
    let same = one_found_at table row old rows is in
    omega (arith, h, e, same)

pub count-new : (table : Table) (row : Change) (rows : List Change) → AreRows rows
    → count_by (is_of table) (put row rows) ≡ count_by (is_of table) rows + cond (is_of table row && is_none (row_at (key_of row) rows)) 1 0
count-new table row rows are =
    new_row table row rows (count_by (is_of table) (put row rows)) (row_at (key_of row) rows) refl (count-put table row rows are)

-- ---- the counts of all tables

pub no_counts : AreCounts (0 ∷ 0 ∷ 0 ∷ 0 ∷ 0 ∷ 0 ∷ []) []
no_counts table.Sites d = refl
no_counts table.Actions d = refl
no_counts table.Files d = refl
no_counts table.Computers d = refl
no_counts table.Reports d = refl
no_counts table.Results d = refl

table_below : (table : Table) → table_number table < 6
table_below table.Sites = omega arith
table_below table.Actions = omega arith
table_below table.Files = omega arith
table_below table.Computers = omega arith
table_below table.Reports = omega arith
table_below table.Results = omega arith

other_table : (table : Table) (row : Change) → (key_of row).table ≢ table_number table → one_of table row ≡ 0
other_table table row apart =
    let e : nat_eq (key_of row).table (table_number table) ≡ false = elim (eqb_tells (key_of row).table (table_number table)) [ inl p ↦ absurd (apart p.1) | inr p ↦ p.0 ] in
    ap flag e

own_table : (table : Table) (row : Change) → (key_of row).table ≡ table_number table → one_of table row ≡ 1
own_table table row same = ap flag (eq-eqb (key_of row).table (table_number table) same)

-- the count of one table is written, and stays right for all
counts_written : (counts : List ℕ) (rows after : List Change) (table : Table) (row : Change) (n : ℕ) → length counts ≡ 6 → (key_of row).table ≡ table_number table
    → AreCounts counts rows → n ≡ count_by (is_of table) after
    → ((other : Table) → table_number other ≢ table_number table → count_by (is_of other) after ≡ count_by (is_of other) rows)
    → AreCounts (slice_set counts (table_number table) n) after
counts_written counts rows after table row n six is are now others other d =
    elim (cases_eq (table_number other) (table_number table)) [
      | inl same ↦
          get_or-set_at counts (table_number table) (table_number other) n d same (omega (arith, six, table_below table))
          ∙ now ∙ ap (λ number. count_by (λ r. nat_eq (key_of r).table number) after) (sym same)
      | inr apart ↦
          get_or-set_other counts (table_number table) (table_number other) n d apart ∙ are other d ∙ sym (others other apart)
    ]

-- what is found at a key counts for a table as the row of that key does
none_found : (table : Table) (found : Option Change) → is_some found ≡ false → one_found table found ≡ 0
none_found table None none = refl
none_found table (Some old) none = cc

some_found : (table : Table) (row : Change) (rows : List Change) (found : Option Change) → row_at (key_of row) rows ≡ found → is_some found ≡ true → one_found table found ≡ one_of table row
some_found table row rows None is some = cc
some_found table row rows (Some old) is some = one_found_at table row old rows is

-- the table of a row has one more
pub counts_more : (counts : List ℕ) (rows : List Change) (table : Table) (row : Change) (n d : ℕ) → length counts ≡ 6 → (key_of row).table ≡ table_number table → AreRows rows
    → AreCounts counts rows → is_some (row_at (key_of row) rows) ≡ false → n ≡ slice_index_or counts (table_number table) d + 1
    → AreCounts (slice_set counts (table_number table) n) (put row rows)
counts_more counts rows table row n d six is good are none now =
    let one : (other : Table) → count_by (is_of other) (put row rows) ≡ count_by (is_of other) rows + one_of other row =
    λ other. let h = count-put other row rows good in let z = none_found other (row_at (key_of row) rows) none in omega (arith, h, z) in
    counts_written counts rows (put row rows) table row n six is are
    (let h = one table in let o = own_table table row is in let c = are table d in omega (arith, now, h, o, c))
    (λ other apart. let h = one other in let o = other_table other row (λ e. apart (sym e ∙ is)) in omega (arith, h, o))

-- a row takes the place of another of its key
pub counts_same : (counts : List ℕ) (rows : List Change) (row : Change) → AreRows rows → AreCounts counts rows → is_some (row_at (key_of row) rows) ≡ true → AreCounts counts (put row rows)
counts_same counts rows row good are some other d =
    let h = count-put other row rows good in
    let z = some_found other row rows (row_at (key_of row) rows) refl some in
    let c = are other d in
    omega (arith, h, z, c)

-- the table of a row has one fewer
pub counts_fewer : (counts : List ℕ) (rows : List Change) (table : Table) (row : Change) (n d : ℕ) → length counts ≡ 6 → (key_of row).table ≡ table_number table → AreRows rows
    → AreCounts counts rows → is_some (row_at (key_of row) rows) ≡ true → n + 1 ≡ slice_index_or counts (table_number table) d
    → AreCounts (slice_set counts (table_number table) n) (without (key_of row) rows)
counts_fewer counts rows table row n d six is good are some now =
    let one : (other : Table) → count_by (is_of other) rows ≡ count_by (is_of other) (without (key_of row) rows) + one_of other row =
    λ other. let h = count-without other (key_of row) rows good in let z = some_found other row rows (row_at (key_of row) rows) refl some in omega (arith, h, z) in
    counts_written counts rows (without (key_of row) rows) table row n six is are
    (let h = one table in let o = own_table table row is in let c = are table d in omega (arith, now, h, o, c))
    (λ other apart. let h = one other in let o = other_table other row (λ e. apart (sym e ∙ is)) in omega (arith, h, o))

-- at least one row is counted where one is found
pub counted_found : (counts : List ℕ) (rows : List Change) (table : Table) (row : Change) (d : ℕ) → (key_of row).table ≡ table_number table → AreRows rows
    → AreCounts counts rows → is_some (row_at (key_of row) rows) ≡ true → 1 ≤ slice_index_or counts (table_number table) d
counted_found counts rows table row d is good are some =
    let h = count-without table (key_of row) rows good in
    let z = some_found table row rows (row_at (key_of row) rows) refl some in
    let w = own_table table row is in
    let c = are table d in
    omega (arith, h, z, w, c)
