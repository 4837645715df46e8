-- The rows between two keys: those of a table, and the results of a computer.
use Rattle.std.proofs.Common.{◌≡◌, ◌≢◌, ℕ, ◌+◌, ◌^◌, ◌<◌, ◌≤◌, List, [], ◌∷◌, Bool, true, false, ◌&&◌, not, cond, filter, nat_eq, bytes_eq, All, Some, None, inl, inr, length, refl, sym, ap, ◌∙◌, subst, arith}
use Rattle.std.specs.declared.cmp.Ordering.{Ordering}
use Rattle.std.specs.declared.cmp.Ordering.TheVariants.{Less, Equal, Greater}
use Rattle.std.specs.Ordering.{is_le, is_lt, is_gt, is_eq, nat_cmp, ordering_then, ordering_reverse}
use Rattle.std.specs.Cmp.Lexicographic.{slice_cmp, texts_ties, bytes_decides}
use Rattle.std.specs.List.{AllByRecursion}
use Rattle.std.specs.Map.{values_of}
use Rattle.std.proofs.lemmas.Bool.{cases_lt, cases_eq, eq-eqb, eqb-true}
use Rattle.std.proofs.lemmas.Bool.Decides.{eqb_tells}
use Rattle.std.proofs.lemmas.Cmp.{ranked, nat_list_cmp_total, tied_itself}
use Rattle.std.proofs.lemmas.List.Elements.{All-head, All-tail}
use Rattle.desk_keep.specs.declared.change.Change.{Change}
use Rattle.desk_keep.specs.declared.change.Change.TheVariants as change
use Rattle.desk_keep.specs.declared.key.StoredKey.{StoredKey}
use Rattle.desk_keep.specs.Keys.{Key, key_of, key_cmp, same_key}
use Rattle.desk_keep.specs.Forms.{Fits}
use Rattle.desk_keep.specs.Tables.{is_result_of, row_at}
use Rattle.desk_keep.specs.Inside.{shown_key, stored_cmp, AreEntries}
use Rattle.desk_keep.proofs.KeyOrder.{same_exact}

-- ---- filters of entries and of rows

-- where the keys pass one test exactly where the rows pass another
values-filter : (p : StoredKey → Bool) (q : Change → Bool) (es : List (StoredKey × Change)) → AllByRecursion (λ e. p e.0 ≡ q e.1) es → values_of (filter (λ e. p e.0) es) ≡ filter q (values_of es)
values-filter p q [] same = refl
values-filter p q (e ∷ es) same =
    subst (λ b. values_of (filter (λ f. p f.0) (e ∷ es)) ≡ cond b (e.1 ∷ filter q (values_of es)) (filter q (values_of es))) same.0
    (elim (p e.0) as (λ b. values_of (cond b (e ∷ filter (λ f. p f.0) es) (filter (λ f. p f.0) es)) ≡ cond b (e.1 ∷ filter q (values_of es)) (filter q (values_of es))) [
      | true ↦ ap (λ l. e.1 ∷ l) (values-filter p q es same.1)
      | false ↦ values-filter p q es same.1
    ])

-- where the keys pass a test exactly where rows that fit pass another
values-filter-keys : (p : Key → Bool) (q : Change → Bool) → ((row : Change) → Fits row → p (key_of row) ≡ q row) → (es : List (StoredKey × Change)) → AreEntries es → All Fits (values_of es)
    → values_of (filter (λ e. p (shown_key e.0)) es) ≡ filter q (values_of es)
values-filter-keys p q same es are fit = values-filter (λ key. p (shown_key key)) q es (tests es are fit)
  where
    tests : (es : List (StoredKey × Change)) → AreEntries es → All Fits (values_of es) → AllByRecursion (λ e. p (shown_key e.0) ≡ q e.1) es
    tests [] are fit = tt
    tests (e ∷ es) are fit = (ap p are.0 ∙ same e.1 (All-head Fits e.1 (values_of es) fit), tests es are.1 (All-tail Fits e.1 (values_of es) fit))

unequal : (a b : ℕ) → a ≢ b → nat_eq a b ≡ false
unequal a b apart = elim (eqb_tells a b) [ inl p ↦ absurd (apart p.1) | inr p ↦ p.0 ]

-- ---- the keys of a table

-- at the least name and number the tables decide
from_least : (name : List ℕ) (number : ℕ) → is_le (ordering_then (slice_cmp nat_cmp [] name) (nat_cmp 0 number)) ≡ true
from_least (byte ∷ name) number = refl
from_least [] number =
    elim (nat_cmp 0 number) as (λ o. o ≡ nat_cmp 0 number → is_le o ≡ true) [
      | Less ↦ λ e. refl
      | Equal ↦ λ e. refl
      | Greater ↦ λ e. let below : number < 0 = ranked 0 number Greater e in absurd (omega (arith, below))
    ] refl

not_past : (a table : ℕ) (o : Ordering) → is_le o ≡ true → a ≤ table → is_le (ordering_then (nat_cmp a table) o) ≡ true
not_past a table o least le =
    elim (nat_cmp a table) as (λ c. c ≡ nat_cmp a table → is_le (ordering_then c o) ≡ true) [
      | Less ↦ λ e. refl
      | Equal ↦ λ e. least
      | Greater ↦ λ e. let below : table < a = ranked a table Greater e in absurd (omega (arith, le, below))
    ] refl

past : (a table : ℕ) (o : Ordering) → table < a → is_le (ordering_then (nat_cmp a table) o) ≡ false
past a table o lt =
    elim (nat_cmp a table) as (λ c. c ≡ nat_cmp a table → is_le (ordering_then c o) ≡ false) [
      | Less ↦ λ e. let above : a < table = ranked a table Less e in absurd (omega (arith, lt, above))
      | Equal ↦ λ e. let same : a ≡ table = ranked a table Equal e in absurd (omega (arith, lt, same))
      | Greater ↦ λ e. refl
    ] refl

-- from the least key of the table on, and before that of the next
in_table : (n : ℕ) (key : Key)
    → (is_le (key_cmp (record { table = n; name = []; number = 0 }) key) && not (is_le (key_cmp (record { table = n + 1; name = []; number = 0 }) key))) ≡ nat_eq key.table n
in_table n key =
    let least = from_least key.name key.number in
    elim (cases_lt key.table n) [
      | inl lt ↦
          ap (λ b. b && not (is_le (key_cmp (record { table = n + 1; name = []; number = 0 }) key))) (past n key.table _ lt)
          ∙ sym (unequal key.table n (λ e. absurd (omega (arith, lt, e))))
      | inr ge ↦
          ap (λ b. b && not (is_le (key_cmp (record { table = n + 1; name = []; number = 0 }) key))) (not_past n key.table _ least ge)
          ∙ (elim (cases_eq key.table n) [
            | inl same ↦ ap not (past (n + 1) key.table _ (omega (arith, same))) ∙ sym (eq-eqb key.table n same)
            | inr apart ↦ ap not (not_past (n + 1) key.table _ least (omega (arith, ge, apart))) ∙ sym (unequal key.table n apart)
          ])
    ]

-- the rows between those keys
pub rows_of_table : (n : ℕ) (first end : StoredKey) (es : List (StoredKey × Change)) → shown_key first ≡ record { table = n; name = []; number = 0 }
    → shown_key end ≡ record { table = n + 1; name = []; number = 0 } → AreEntries es → All Fits (values_of es)
    → values_of (filter (λ e. is_le (stored_cmp first e.0) && not (is_le (stored_cmp end e.0))) es) ≡ filter (λ row. nat_eq (key_of row).table n) (values_of es)
rows_of_table n first end es low high are fit =
    values-filter-keys (λ key. is_le (key_cmp (shown_key first) key) && not (is_le (key_cmp (shown_key end) key))) (λ row. nat_eq (key_of row).table n)
    (λ row fits. (λ i. is_le (key_cmp (low i) (key_of row)) && not (is_le (key_cmp (high i) (key_of row)))) ∙ in_table n (key_of row)) es are fit

-- ---- the keys of a computer's results

-- tables and names decide, where the numbers are within the bounds
decided : (tables names low high : Ordering) → is_le low ≡ true → (tables ≡ Equal → is_lt high ≡ false)
    → (is_le (ordering_then tables (ordering_then names low)) && not (is_lt (ordering_then tables (ordering_then names high)))) ≡ (is_eq tables && is_eq names)
decided Less names low high least most = refl
decided Greater names low high least most = refl
decided Equal Less low high least most = refl
decided Equal Greater low high least most = refl
decided Equal Equal low high least most = ap (λ b. b && not (is_lt high)) least ∙ ap not (most refl)

tied_numbers : (a b : ℕ) → is_eq (nat_cmp a b) ≡ nat_eq b a
tied_numbers a b =
    elim (nat_cmp a b) as (λ o. o ≡ nat_cmp a b → is_eq o ≡ nat_eq b a) [
      | Less ↦ λ e. let lt : a < b = ranked a b Less e in sym (unequal b a (λ same. absurd (omega (arith, lt, same))))
      | Equal ↦ λ e. let same : a ≡ b = ranked a b Equal e in sym (eq-eqb b a (sym same))
      | Greater ↦ λ e. let lt : b < a = ranked a b Greater e in sym (unequal b a (λ same. absurd (omega (arith, lt, same))))
    ] refl

is_eq_turned : (o : Ordering) → is_eq (ordering_reverse o) ≡ is_eq o
is_eq_turned Less = refl
is_eq_turned Equal = refl
is_eq_turned Greater = refl

at_least : (number : ℕ) → is_le (nat_cmp 0 number) ≡ true
at_least number = from_least [] number

at_most : (most number : ℕ) → number ≤ most → is_lt (nat_cmp most number) ≡ false
at_most most number le =
    elim (nat_cmp most number) as (λ o. o ≡ nat_cmp most number → is_lt o ≡ false) [
      | Less ↦ λ e. let lt : most < number = ranked most number Less e in absurd (omega (arith, le, lt))
      | Equal ↦ λ e. refl
      | Greater ↦ λ e. refl
    ] refl

of_computer : (computer : List ℕ) (most : ℕ) (key : Key) → (key.table ≡ 5 → key.number ≤ most)
    → (is_le (key_cmp (record { table = 5; name = computer; number = 0 }) key) && not (is_lt (key_cmp (record { table = 5; name = computer; number = most }) key)))
    ≡ (nat_eq key.table 5 && bytes_eq key.name computer)
of_computer computer most key within =
    decided (nat_cmp 5 key.table) (slice_cmp nat_cmp computer key.name) (nat_cmp 0 key.number) (nat_cmp most key.number) (at_least key.number)
    (λ e. let same : 5 ≡ key.table = ranked 5 key.table Equal (sym e) in at_most most key.number (within (sym same)))
    ∙ ap (λ b. b && is_eq (slice_cmp nat_cmp computer key.name)) (tied_numbers 5 key.table)
    ∙ ap (λ b. nat_eq key.table 5 && b) (sym (is_eq_turned (slice_cmp nat_cmp computer key.name)) ∙ ap is_eq (sym (nat_list_cmp_total.antisymm key.name computer)) ∙ sym (texts_ties key.name computer))

-- a result that fits has a number within the bounds
number_within : (row : Change) → Fits row → (key_of row).table ≡ 5 → (key_of row).number ≤ 2 ^ 53
number_within (change.Site name version text) fit e = cc
number_within (change.Action id text digest) fit e = cc
number_within (change.File digest bytes) fit e = cc
number_within (change.Computer name) fit e = cc
number_within (change.Report computer seq digest) fit e = cc
number_within (change.Result result) fit e = fit.row.1.action.1

le_not_gt : (o : Ordering) → is_le o ≡ true → is_gt o ≡ false
le_not_gt Less h = refl
le_not_gt Equal h = refl
le_not_gt Greater h = cc

-- the least is not above the greatest
pub in_order : (computer : List ℕ) (most : ℕ) (first last : StoredKey) → shown_key first ≡ record { table = 5; name = computer; number = 0 } → shown_key last ≡ record { table = 5; name = computer; number = most }
    → is_gt (stored_cmp first last) ≡ false
in_order computer most first last low high =
    (λ i. is_gt (key_cmp (low i) (high i)))
    ∙ ap (λ o. is_gt (ordering_then o (nat_cmp 0 most))) (tied_itself nat_list_cmp_total computer)
    ∙ le_not_gt (nat_cmp 0 most) (at_least most)

-- the rows between the keys of the least and the greatest number
pub rows_of_computer : (computer : List ℕ) (most : ℕ) (first last : StoredKey) (es : List (StoredKey × Change)) → 2 ^ 53 ≤ most
    → shown_key first ≡ record { table = 5; name = computer; number = 0 } → shown_key last ≡ record { table = 5; name = computer; number = most } → AreEntries es → All Fits (values_of es)
    → values_of (filter (λ e. is_le (stored_cmp first e.0) && not (is_lt (stored_cmp last e.0))) es) ≡ filter (is_result_of computer) (values_of es)
rows_of_computer computer most first last es enough low high are fit =
    values-filter-keys (λ key. is_le (key_cmp (shown_key first) key) && not (is_lt (key_cmp (shown_key last) key))) (is_result_of computer)
    (λ row fits. (λ i. is_le (key_cmp (low i) (key_of row)) && not (is_lt (key_cmp (high i) (key_of row))))
    ∙ of_computer computer most (key_of row) (λ e. let within = number_within row fits e in omega (arith, within, enough))) es are fit

-- ---- long names

-- a row that fits and is no file has a name of 64 bytes at most
pub short_name : (row : Change) → Fits row → (key_of row).table ≢ 2 → length (key_of row).name ≤ 64
short_name (change.Site name version text) fit apart = fit.0.1
short_name (change.Action id text digest) fit apart = omega arith
short_name (change.File digest bytes) fit apart = absurd (apart refl)
short_name (change.Computer name) fit apart = fit.1
short_name (change.Report computer seq digest) fit apart = fit.0.1
short_name (change.Result result) fit apart = fit.computer.1

-- no result is one of a computer with a longer name
pub none_of_long : (computer : List ℕ) (rows : List Change) → All Fits rows → 64 < length computer → filter (is_result_of computer) rows ≡ []
none_of_long computer [] fit long = refl
none_of_long computer (row ∷ rows) fit long =
    subst (λ b. cond b (row ∷ filter (is_result_of computer) rows) (filter (is_result_of computer) rows) ≡ []) (sym (not_of row (All-head Fits row rows fit)))
    (none_of_long computer rows (All-tail Fits row rows fit) long)
  where
    not_of : (row : Change) → Fits row → is_result_of computer row ≡ false
    not_of row fit =
        elim (nat_eq (key_of row).table 5) as (λ b. nat_eq (key_of row).table 5 ≡ b → (b && bytes_eq (key_of row).name computer) ≡ false) [
          | false ↦ λ e. refl
          | true ↦ λ e.
              let table : (key_of row).table ≡ 5 = eqb-true (key_of row).table 5 e in
              let short : length (key_of row).name ≤ 64 = short_name row fit (λ two. absurd (omega (arith, table, two))) in
              elim (bytes_eq (key_of row).name computer) as (λ b. bytes_eq (key_of row).name computer ≡ b → b ≡ false) [
                | false ↦ λ same. refl
                | true ↦ λ same.
                    let one : (key_of row).name ≡ computer = (bytes_decides (key_of row).name computer).0 same in
                    let size = ap length one in
                    absurd (omega (arith, short, long, size))
              ] refl
        ] refl

-- no row has a longer key, but for a file's
pub none_at_long : (key : Key) (rows : List Change) → All Fits rows → key.table ≢ 2 → 64 < length key.name → row_at key rows ≡ None
none_at_long key [] fit apart long = refl
none_at_long key (row ∷ rows) fit apart long =
    subst (λ b. cond b (Some row) (row_at key rows) ≡ None) (sym (other (All-head Fits row rows fit)))
    (none_at_long key rows (All-tail Fits row rows fit) apart long)
  where
    other : Fits row → same_key key (key_of row) ≡ false
    other fits =
        elim (same_key key (key_of row)) as (λ b. same_key key (key_of row) ≡ b → b ≡ false) [
          | false ↦ λ e. refl
          | true ↦ λ e.
              let is : key ≡ key_of row = same_exact key (key_of row) e in
              let short : length (key_of row).name ≤ 64 = short_name row fits (λ two. apart (ap (λ (k : Key). k.table) is ∙ two)) in
              let size = ap (λ (k : Key). length k.name) is in
              absurd (omega (arith, short, long, size))
        ] refl
