-- Lawful rows are bounded, and stay lawful.
use Rattle.std.proofs.Common.{ℕ, ◌≡◌, ◌+◌, ◌<◌, ◌≤◌, ℤ, ◌+ℤ◌, ◌≤ℤ◌, List, [], ◌∷◌, ◌++◌, length, Bool, true, false, cond, refl, sym, ap, ◌∙◌, subst, arith, Option, Some, None, ◌⊎◌, inl, inr, length-append, append_assoc}
use Rattle.std.specs.Prelude.{All, IsSome, IsSomeAnd}
use Rattle.std.proofs.lemmas.List.Elements.{All-nil, All-cons}
use Rattle.std.proofs.lemmas.Bool.Decides.{nat_tests}
use Rattle.act_rules.specs.declared.row.Row.{Row}
use Rattle.act_rules.specs.declared.row.Outcome.{Outcome}
use Rattle.act_rules.specs.declared.row.Outcome.TheVariants.{Fixed, Failed, Interrupted}
use Rattle.act_rules.specs.declared.rule.Rules.{Rules}
use Rattle.act_rules.specs.declared.rule.Reapply.{Reapply}
use Rattle.act_rules.specs.declared.rule.Reapply.TheVariants.{Never, Again, While}
use Rattle.act_rules.specs.Rows.{last_row, OnlyLastRuns, HasEnded, with_last}
use Rattle.act_rules.specs.Series.{closes, end_closes, begun_series, series_after, series, last_series, closed_after, is_closed}
use Rattle.act_rules.specs.Owed.{OwesAgain, IsOwed}
use Rattle.act_rules.specs.Lawful.{AreLawful, AreBounded, most_series}
use Rattle.act_rules.proofs.SeriesLemmas.{grow, series_snoc, grow_new, grow_longer}
use Rattle.act_rules.proofs.RowLemmas.{last_snoc, some_and}

-- a failure that doesn't close its series leaves room for a retry
left_open : (r n : ℕ) (e : Option (ℤ × Outcome)) → IsSome e → end_closes r n e ≡ false → n ≤ r → n + 1 ≤ r
left_open r n None some h k = cc
left_open r n (Some (t, Fixed)) some h k = cc
left_open r n (Some (t, Failed)) some h k = grind (arith, nat_tests)
left_open r n (Some (t, Interrupted)) some h k = grind (arith, nat_tests)

abbrev IsShort : ℕ → List Row → Type 0
IsShort r rows = length rows ≤ 1 + r

cond_all : (r : ℕ) (b : Bool) (t u : List (List Row)) → (b ≡ true → All (IsShort r) t) → (b ≡ false → All (IsShort r) u) → All (IsShort r) (cond b t u)
cond_all r true t u h k = h refl
cond_all r false t u h k = k refl

begun_all : (r : ℕ) (front : List Row) → length front ≤ 1 + r → All (IsShort r) (begun_series front)
begun_all r [] h = All-nil (IsShort r)
begun_all r (x ∷ front) h = All-cons (IsShort r) (x ∷ front) [] h (All-nil (IsShort r))

short_after : (r : ℕ) (front rows : List Row) → length front ≤ r → OnlyLastRuns rows → All (IsShort r) (series_after r front rows)
short_after r front [] h o = begun_all r front (omega (arith, h))
short_after r front (q ∷ []) h o =
    let one : IsShort r (front ++ q ∷ []) = omega (arith, h, length-append front (q ∷ [])) in
    cond_all r (closes r (length front) q) _ _ (λ _. All-cons (IsShort r) (front ++ q ∷ []) [] one (All-nil (IsShort r))) (λ _. begun_all r (front ++ q ∷ []) one)
short_after r front (q ∷ x ∷ rows) h o =
    let one : IsShort r (front ++ q ∷ []) = omega (arith, h, length-append front (q ∷ [])) in
    cond_all r (closes r (length front) q) _ _
    (λ _. All-cons (IsShort r) (front ++ q ∷ []) (series_after r [] (x ∷ rows)) one (short_after r [] (x ∷ rows) (omega arith) o.1))
    (λ c. short_after r (front ++ q ∷ []) (x ∷ rows) (let k = left_open r (length front) q.end o.0 c h in omega (arith, k, length-append front (q ∷ []))) o.1)

by_end : (e : Option (ℤ × Outcome)) (P : ℤ × Outcome → Type 0) → IsSomeAnd e P → IsSome e
by_end None P h = absurd h
by_end (Some e) P h = refl

by_last : (rows : List Row) (row : Row) (P : Row → ℤ × Outcome → Type 0) → IsSomeAnd (last_row (rows ++ row ∷ [])) (λ row. IsSomeAnd row.end (P row)) → HasEnded row
by_last rows row P h =
    let Q : Option Row → Type 0 = λ o. IsSomeAnd o (λ row. IsSomeAnd row.end (P row)) in
    by_end row.end (P row) (subst Q (last_snoc rows row) h)

-- the row before one that began lawfully has ended
ended_before : (rules : Rules) (rows : List Row) (row : Row) (t : ℤ) → IsOwed rules (rows ++ row ∷ []) t → HasEnded row
ended_before rules rows row t (inl h) = absurd (let k : length (rows ++ row ∷ []) ≡ 0 = ap length h in omega (arith, k, length-append rows (row ∷ [])))
ended_before rules rows row t (inr (inl h)) =
    by_last rows row (λ _ end. (is_closed rules.retries (rows ++ row ∷ []) ≡ false) × ((end.0 +ℤ rules.wait) ≤ℤ t)) h
ended_before rules rows row t (inr (inr h)) =
    let all = rows ++ row ∷ [] in
    by_last rows row (λ last end. (is_closed rules.retries all ≡ true) × OwesAgain rules.reapply (length (series rules.retries all)) last.cleared end.0 t) h

next : (front rows : List Row) (x : Row) → front ++ x ∷ rows ≡ (front ++ x ∷ []) ++ rows
next front rows x = sym (append_assoc front (x ∷ []) rows)

only_last : (rules : Rules) (front rows : List Row) → AreLawful rules (front ++ rows) → OnlyLastRuns rows
only_last rules front [] h = tt
only_last rules front (x ∷ []) h = tt
only_last rules front (x ∷ y ∷ rows) h =
    let P : List Row → Type 0 = λ r. AreLawful rules r in (
      ended_before rules front x y.begun (h (front ++ x ∷ []) rows y (next front (y ∷ rows) x)),
      only_last rules (front ++ x ∷ []) (y ∷ rows) (subst P (next front (y ∷ rows) x) h),
    )

-- the number of series
some_series : (reapply : Reapply) → 1 ≤ most_series reapply
some_series Never = omega arith
some_series (Again limit wait) = omega arith
some_series (While limit wait) = omega arith

room : (reapply : Reapply) (count : ℕ) (cleared : Option ℤ) (end t : ℤ) → OwesAgain reapply count cleared end t → count + 1 ≤ most_series reapply
room Never count cleared end t h = absurd h
room (Again limit wait) count cleared end t h = omega (arith, h.0)
room (While limit wait) count cleared end t h = omega (arith, h.0)

grow_open : (r m : ℕ) (row : Row) (ss : List (List Row)) → closed_after r 0 (last_series ss) ≡ false → 1 ≤ m → length ss ≤ m → length (grow r row ss) ≤ m
grow_open r m row [] h one k = one
grow_open r m row (s ∷ ss) h one k = let some : 0 < length (s ∷ ss) = omega arith in omega (arith, (grow_longer r row (s ∷ ss) some h).0, k)

one_more : (rules : Rules) (rows : List Row) (row : Row) (t : ℤ) → IsOwed rules rows t → length (series rules.retries rows) ≤ most_series rules.reapply →
    length (grow rules.retries row (series rules.retries rows)) ≤ most_series rules.reapply
one_more rules rows row t (inl h) k =
    let P : List Row → Type 0 = λ r. length (grow rules.retries row (series rules.retries r)) ≤ most_series rules.reapply in
    subst P (sym h) (some_series rules.reapply)
one_more rules rows row t (inr (inl h)) k =
    let w = some_and (last_row rows) (λ row. IsSomeAnd row.end (λ end. (is_closed rules.retries rows ≡ false) × ((end.0 +ℤ rules.wait) ≤ℤ t))) h in
    let v = some_and w.0.end (λ end. (is_closed rules.retries rows ≡ false) × ((end.0 +ℤ rules.wait) ≤ℤ t)) w.2 in
    grow_open rules.retries (most_series rules.reapply) row (series rules.retries rows) v.2.0 (some_series rules.reapply) k
one_more rules rows row t (inr (inr h)) k =
    let w = some_and (last_row rows) (λ row. IsSomeAnd row.end (λ end. (is_closed rules.retries rows ≡ true) × OwesAgain rules.reapply (length (series rules.retries rows)) row.cleared end.0 t)) h in
    let v = some_and w.0.end (λ end. (is_closed rules.retries rows ≡ true) × OwesAgain rules.reapply (length (series rules.retries rows)) w.0.cleared end.0 t) w.2 in
    omega (arith, room rules.reapply _ _ _ _ v.2.1, (grow_new rules.retries row (series rules.retries rows) (inr v.2.0)).0)

few_after : (rules : Rules) (front rows : List Row) → length (series rules.retries front) ≤ most_series rules.reapply → AreLawful rules (front ++ rows) → length (series rules.retries (front ++ rows)) ≤ most_series rules.reapply
few_after rules front [] k h =
    let P : List Row → Type 0 = λ r. length (series rules.retries r) ≤ most_series rules.reapply in
    subst P (sym (no_more front)) k
  where
    no_more : (xs : List Row) → xs ++ [] ≡ xs
    no_more [] = refl
    no_more (x ∷ xs) = ap (λ r. x ∷ r) (no_more xs)
few_after rules front (x ∷ rows) k h =
    let P : List Row → Type 0 = λ r. length (series rules.retries r) ≤ most_series rules.reapply in
    let Q : List Row → Type 0 = λ r. AreLawful rules r in
    let n : length (series rules.retries (front ++ x ∷ [])) ≤ most_series rules.reapply =
    (let s = one_more rules front x x.begun (h front rows x refl) k in omega (arith, s, ap length (series_snoc rules.retries front x))) in
    subst P (sym (next front rows x)) (few_after rules (front ++ x ∷ []) rows n (subst Q (next front rows x) h))

pub bounded : (rules : Rules) (rows : List Row) → AreLawful rules rows → AreBounded rules (series rules.retries rows)
bounded rules rows h =
    (short_after rules.retries [] rows (omega arith) (only_last rules [] rows h), few_after rules [] rows (omega arith) h)

-- where a row stands in rows of which the last is known
cons_head : (x y : Row) (xs ys : List Row) → x ∷ xs ≡ y ∷ ys → x ≡ y
cons_head x y xs ys h = cc

cons_tail : (x y : Row) (xs ys : List Row) → x ∷ xs ≡ y ∷ ys → xs ≡ ys
cons_tail x y xs ys h = cc

not_empty : (xs ys : List Row) (y : Row) → [] ≡ xs ++ y ∷ ys → ⊥
not_empty xs ys y h = let k : 0 ≡ length (xs ++ y ∷ ys) = ap length h in omega (arith, k, length-append xs (y ∷ ys))

abbrev IsBeforeLast : List Row → Row → List Row → Row → Type 0
IsBeforeLast rows row before r = ((before ≡ rows) × (r ≡ row)) ⊎ ((after : List Row) × (rows ≡ before ++ r ∷ after))

cons_before : (x : Row) (rows : List Row) (row : Row) (before : List Row) (r : Row) → IsBeforeLast rows row before r → IsBeforeLast (x ∷ rows) row (x ∷ before) r
cons_before x rows row before r (inl h) = inl (ap (λ l. x ∷ l) h.0, h.1)
cons_before x rows row before r (inr h) = inr (h.0, ap (λ l. x ∷ l) h.1)

split_snoc : (rows before after : List Row) (row r : Row) → rows ++ row ∷ [] ≡ before ++ r ∷ after → IsBeforeLast rows row before r
split_snoc [] [] after row r h = inl (refl, sym (cons_head row r [] after h))
split_snoc [] (b ∷ before) after row r h = absurd (not_empty before after r (cons_tail row b [] (before ++ r ∷ after) h))
split_snoc (x ∷ rows) [] after row r h = inr (rows, ap (λ y. y ∷ rows) (cons_head x r (rows ++ row ∷ []) after h))
split_snoc (x ∷ rows) (b ∷ before) after row r h =
    let P : Row → Type 0 = λ y. IsBeforeLast (x ∷ rows) row (y ∷ before) r in
    subst P (cons_head x b (rows ++ row ∷ []) (before ++ r ∷ after) h) (cons_before x rows row before r (split_snoc rows before after row r (cons_tail x b (rows ++ row ∷ []) (before ++ r ∷ after) h)))

pub lawful_none : (rules : Rules) → AreLawful rules []
lawful_none rules before after row h = absurd (not_empty before after row h)

lawful_at : (rules : Rules) (rows : List Row) (row : Row) (before : List Row) (r : Row) → AreLawful rules rows → IsOwed rules rows row.begun → IsBeforeLast rows row before r → IsOwed rules before r.begun
lawful_at rules rows row before r h o (inl e) =
    let P : List Row → Type 0 = λ b. IsOwed rules b r.begun in
    let Q : Row → Type 0 = λ x. IsOwed rules rows x.begun in
    subst P (sym e.0) (subst Q (sym e.1) o)
lawful_at rules rows row before r h o (inr e) = h before e.0 r e.1

pub lawful_snoc : (rules : Rules) (rows : List Row) (row : Row) → AreLawful rules rows → IsOwed rules rows row.begun → AreLawful rules (rows ++ row ∷ [])
lawful_snoc rules rows row h o before after r e = lawful_at rules rows row before r h o (split_snoc rows before after row r e)

abbrev WasBefore : List Row → List Row → Row → Type 0
WasBefore rows before r = (old : Row) × (after : List Row) × (rows ≡ before ++ old ∷ after) × (old.begun ≡ r.begun)

split_with : (rows before after : List Row) (r : Row) (change : Row → Row) → ((row : Row) → (change row).begun ≡ row.begun) → with_last rows change ≡ before ++ r ∷ after → WasBefore rows before r
split_with [] before after r change k h = absurd (not_empty before after r h)
split_with (x ∷ []) [] after r change k h = (x, [], refl, sym (k x) ∙ ap (λ (y : Row). y.begun) (cons_head (change x) r [] after h))
split_with (x ∷ []) (b ∷ before) after r change k h = absurd (not_empty before after r (cons_tail (change x) b [] (before ++ r ∷ after) h))
split_with (x ∷ y ∷ rows) [] after r change k h = (x, y ∷ rows, refl, ap (λ (z : Row). z.begun) (cons_head x r (with_last (y ∷ rows) change) after h))
split_with (x ∷ y ∷ rows) (b ∷ before) after r change k h =
    let w = split_with (y ∷ rows) before after r change k (cons_tail x b (with_last (y ∷ rows) change) (before ++ r ∷ after) h) in
    (w.0, w.1, ap (λ l. x ∷ l) w.2 ∙ ap (λ z. z ∷ (before ++ w.0 ∷ w.1)) (cons_head x b (with_last (y ∷ rows) change) (before ++ r ∷ after) h), w.3)

pub lawful_with : (rules : Rules) (rows : List Row) (change : Row → Row) → ((row : Row) → (change row).begun ≡ row.begun) → AreLawful rules rows → AreLawful rules (with_last rows change)
lawful_with rules rows change k h before after r e =
    let w = split_with rows before after r change k e in
    let P : ℤ → Type 0 = λ t. IsOwed rules before t in
    subst P w.3 (h before w.1 w.0 w.2)
