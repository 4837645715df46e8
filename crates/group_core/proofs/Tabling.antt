-- What a sample does to the table.
use Rattle.std.proofs.Common.{ℕ, ◌≡◌, Bool, true, false, cond, List, [], ◌∷◌, ◌++◌, map, filter, find, Option, Some, None, option_map, option_to_list, refl, sym, ap, subst, ◌∙◌, arith, bytes_eq, append-nil, append_assoc}
use Rattle.std.specs.Prelude.{nat_lt}
use Rattle.std.specs.Option.{option_or}
use Rattle.std.specs.List.{IsDistinct, AllByRecursion}
use Rattle.std.proofs.lemmas.Bool.{cond-true, cond-false, ltb-true, ltb-false, lt-ltb, le-ltb}
use Rattle.group_sample.specs.declared.sample.Sample.{Sample}
use Rattle.group_sample.specs.declared.sample.Sampled.{Sampled}
use Rattle.group_core.specs.declared.kept_row.KeptRow.{KeptRow}
use Rattle.group_core.specs.Books.{is_newer}
use Rattle.group_core.specs.Keeping.{newer_rows, numbered}
use Rattle.group_core.specs.Lists.{one_of, row_name, with_all}
use Rattle.group_core.specs.Tables.{newer, newest, row_in, rows_put, table_row}
use Rattle.group_core.proofs.Sorting.{found_all, not_among, same_name}

-- the row that stays of a kept one and one that is put
abbrev pub merged : Option KeptRow → KeptRow → KeptRow
merged None row = row
merged (Some kept) row = cond (nat_lt kept.seq row.seq) row kept

-- ---- one row more
rows_more : (ss : List Sample) (s : Sample) (c p : List ℕ) → rows_put (ss ++ s ∷ []) c p ≡ rows_put ss c p ++ cond (bytes_eq s.computer c) (option_to_list (row_in p s)) []
rows_more [] s c p = append-nil (cond (bytes_eq s.computer c) (option_to_list (row_in p s)) [])
rows_more (t ∷ ss) s c p =
    ap (λ l. cond (bytes_eq t.computer c) (option_to_list (row_in p t)) [] ++ l) (rows_more ss s c p)
    ∙ sym (append_assoc (cond (bytes_eq t.computer c) (option_to_list (row_in p t)) []) (rows_put ss c p) (cond (bytes_eq s.computer c) (option_to_list (row_in p s)) []))

-- of three rows in their order the one that stays
three : (a k x : KeptRow) → cond (nat_lt a.seq (cond (nat_lt k.seq x.seq) x k).seq) (cond (nat_lt k.seq x.seq) x k) a
    ≡ cond (nat_lt (cond (nat_lt a.seq k.seq) k a).seq x.seq) x (cond (nat_lt a.seq k.seq) k a)
three a k x = by (nat_lt k.seq x.seq) (nat_lt a.seq k.seq) refl refl
  where
    by : (b c : Bool) → nat_lt k.seq x.seq ≡ b → nat_lt a.seq k.seq ≡ c → cond (nat_lt a.seq (cond b x k).seq) (cond b x k) a ≡ cond (nat_lt (cond c k a).seq x.seq) x (cond c k a)
    by true true m n =
        let lt : nat_lt a.seq x.seq ≡ true = lt-ltb a.seq x.seq (let i = ltb-true k.seq x.seq m in let j = ltb-true a.seq k.seq n in omega arith) in
        cond-true (nat_lt a.seq x.seq) x a lt ∙ sym (cond-true (nat_lt k.seq x.seq) x k m)
    by true false m n = refl
    by false true m n = cond-true (nat_lt a.seq k.seq) k a n ∙ sym (cond-false (nat_lt k.seq x.seq) x k m)
    by false false m n =
        let ge : nat_lt a.seq x.seq ≡ false = le-ltb a.seq x.seq (let i = ltb-false k.seq x.seq m in let j = ltb-false a.seq k.seq n in omega arith) in
        cond-false (nat_lt a.seq k.seq) k a n ∙ sym (cond-false (nat_lt a.seq x.seq) x a ge)

newest_more : (rows : List KeptRow) (x : KeptRow) → newest (rows ++ x ∷ []) ≡ Some (merged (newest rows) x)
newest_more [] x = refl
newest_more (a ∷ rows) x = ap (λ o. Some (newer a o)) (newest_more rows x) ∙ by (newest rows)
  where
    by : (o : Option KeptRow) → Some (newer a (Some (merged o x))) ≡ Some (merged (Some (newer a o)) x)
    by None = refl
    by (Some k) = ap Some (three a k x)

-- ---- the table with a sample more
-- of another computer
pub other_computer : (ss : List Sample) (s : Sample) (c p : List ℕ) → bytes_eq s.computer c ≡ false → table_row (ss ++ s ∷ []) c p ≡ table_row ss c p
other_computer ss s c p other =
    ap newest (rows_more ss s c p ∙ ap (λ l. rows_put ss c p ++ l) (cond-false (bytes_eq s.computer c) (option_to_list (row_in p s)) [] other) ∙ append-nil (rows_put ss c p))

-- what stands of a row that is there or not, and a kept one
abbrev pub put_row : Option KeptRow → Option KeptRow → Option KeptRow
put_row None kept = kept
put_row (Some row) kept = Some (merged kept row)

pub own_computer : (ss : List Sample) (s : Sample) (c p : List ℕ) → bytes_eq s.computer c ≡ true → table_row (ss ++ s ∷ []) c p ≡ put_row (row_in p s) (table_row ss c p)
own_computer ss s c p own =
    ap newest (rows_more ss s c p ∙ ap (λ l. rows_put ss c p ++ l) (cond-true (bytes_eq s.computer c) (option_to_list (row_in p s)) [] own)) ∙ by (row_in p s)
  where
    by : (o : Option KeptRow) → newest (rows_put ss c p ++ option_to_list o) ≡ put_row o (table_row ss c p)
    by None = ap newest (append-nil (rows_put ss c p))
    by (Some row) = newest_more (rows_put ss c p) row

-- ---- the rows that are newer
abbrev properties : List Sampled → List (List ℕ)
properties rows = map (λ (row : Sampled). row.property) rows

abbrev kept_names : List KeptRow → List (List ℕ)
kept_names rows = map row_name rows

apart_newer : (name : List ℕ) (seq : ℕ) (test : Sampled → Bool) (rows : List Sampled) → AllByRecursion (λ other. bytes_eq name other ≡ false) (properties rows)
    → AllByRecursion (λ other. bytes_eq name other ≡ false) (kept_names (map (numbered seq) (filter test rows)))
apart_newer name seq test [] apart = tt
apart_newer name seq test (row ∷ rows) apart = by (test row) (apart_newer name seq test rows apart.1)
  where
    by : (b : Bool) → AllByRecursion (λ other. bytes_eq name other ≡ false) (kept_names (map (numbered seq) (filter test rows)))
        → AllByRecursion (λ other. bytes_eq name other ≡ false) (kept_names (map (numbered seq) (cond b (row ∷ filter test rows) (filter test rows))))
    by true rest = (apart.0, rest)
    by false rest = rest

pub distinct_newer : (seq : ℕ) (test : Sampled → Bool) (rows : List Sampled) → IsDistinct bytes_eq (properties rows) → IsDistinct bytes_eq (kept_names (map (numbered seq) (filter test rows)))
unfolding IsDistinct
distinct_newer seq test [] distinct = tt
distinct_newer seq test (row ∷ rows) distinct = by (test row) (distinct_newer seq test rows distinct.1)
  where
    by : (b : Bool) → IsDistinct bytes_eq (kept_names (map (numbered seq) (filter test rows))) → IsDistinct bytes_eq (kept_names (map (numbered seq) (cond b (row ∷ filter test rows) (filter test rows))))
    by true rest = (apart_newer row.property seq test rows distinct.0, rest)
    by false rest = rest

-- a row that is looked for, where it passes the test
abbrev tested : ℕ → (Sampled → Bool) → Option Sampled → Option KeptRow
tested seq test None = None
tested seq test (Some row) = cond (test row) (Some (numbered seq row)) None

found_newer : (seq : ℕ) (test : Sampled → Bool) (rows : List Sampled) (p : List ℕ) → IsDistinct bytes_eq (properties rows)
    → one_of row_name p (map (numbered seq) (filter test rows)) ≡ tested seq test (find (λ (row : Sampled). bytes_eq row.property p) rows)
unfolding IsDistinct
found_newer seq test [] p distinct = refl
found_newer seq test (row ∷ rows) p distinct = by (test row) (bytes_eq row.property p) refl refl (found_newer seq test rows p distinct.1)
  where
    none : bytes_eq row.property p ≡ true → one_of row_name p (map (numbered seq) (filter test rows)) ≡ None
    none is =
        let P : List ℕ → Type 0 = λ n. AllByRecursion (λ other. bytes_eq n other ≡ false) (properties rows) in
        not_among row_name p (map (numbered seq) (filter test rows)) (apart_newer p seq test rows (subst P (same_name row.property p is) distinct.0))

    by : (b c : Bool) → test row ≡ b → bytes_eq row.property p ≡ c → one_of row_name p (map (numbered seq) (filter test rows)) ≡ tested seq test (find (λ (r : Sampled). bytes_eq r.property p) rows)
        → one_of row_name p (map (numbered seq) (cond b (row ∷ filter test rows) (filter test rows))) ≡ tested seq test (cond c (Some row) (find (λ (r : Sampled). bytes_eq r.property p) rows))
    by true true t is rest = cond-true (bytes_eq row.property p) (Some (numbered seq row)) _ is ∙ sym (cond-true (test row) (Some (numbered seq row)) None t)
    by true false t is rest = cond-false (bytes_eq row.property p) (Some (numbered seq row)) _ is ∙ rest
    by false true t is rest = none is ∙ sym (cond-false (test row) (Some (numbered seq row)) None t)
    by false false t is rest = rest

-- ---- the rows of a computer after a sample
pub kept_after : (kept : List KeptRow) (s : Sample) (p : List ℕ) → IsDistinct bytes_eq (properties s.rows)
    → one_of row_name p (with_all row_name (newer_rows kept s) kept) ≡ put_row (row_in p s) (one_of row_name p kept)
kept_after kept s p distinct =
    let test : Sampled → Bool = λ row. is_newer s.seq (one_of row_name row.property kept) in
    found_all row_name (newer_rows kept s) kept p (distinct_newer s.seq test s.rows distinct)
    ∙ ap (λ o. option_or o (one_of row_name p kept)) (found_newer s.seq test s.rows p distinct) ∙ by (find (λ (row : Sampled). bytes_eq row.property p) s.rows) refl
  where
    named : (rows : List Sampled) (row : Sampled) → find (λ (r : Sampled). bytes_eq r.property p) rows ≡ Some row → row.property ≡ p
    named [] row e = cc
    named (r ∷ rows) row e = here (bytes_eq r.property p) refl (named rows row) e
      where
        here : (b : Bool) → bytes_eq r.property p ≡ b → (find (λ (r : Sampled). bytes_eq r.property p) rows ≡ Some row → row.property ≡ p) → cond b (Some r) (find (λ (r : Sampled). bytes_eq r.property p) rows) ≡ Some row
            → row.property ≡ p
        here true is rest e = let same : r ≡ row = cc in ap (λ (q : Sampled). q.property) (sym same) ∙ same_name r.property p is
        here false is rest e = rest e

    stays : (row : Sampled) (o : Option KeptRow) → option_or (cond (is_newer s.seq o) (Some (numbered s.seq row)) None) o ≡ Some (merged o (numbered s.seq row))
    stays row None = refl
    stays row (Some k) = one (nat_lt k.seq s.seq)
      where
        one : (b : Bool) → option_or (cond b (Some (numbered s.seq row)) None) (Some k) ≡ Some (cond b (numbered s.seq row) k)
        one true = refl
        one false = refl

    by : (o : Option Sampled) → find (λ (row : Sampled). bytes_eq row.property p) s.rows ≡ o
        → option_or (tested s.seq (λ row. is_newer s.seq (one_of row_name row.property kept)) o) (one_of row_name p kept) ≡ put_row (option_map (numbered s.seq) o) (one_of row_name p kept)
    by None e = refl
    by (Some row) e =
        ap (λ n. option_or (cond (is_newer s.seq (one_of row_name n kept)) (Some (numbered s.seq row)) None) (one_of row_name p kept)) (named s.rows row e)
        ∙ stays row (one_of row_name p kept)
