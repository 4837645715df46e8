-- One more row at the end of rows in series.
use Rattle.std.proofs.Common.{ℕ, ◌≡◌, ◌+◌, ◌<◌, ◌≤◌, List, [], ◌∷◌, ◌++◌, length, Bool, true, false, cond, refl, sym, ap, ◌∙◌, arith, ◌⊎◌, inl, inr, length-append}
use Rattle.act_rules.specs.declared.row.Row.{Row}
use Rattle.act_rules.specs.Series.{closes, begun_series, series_after, series, last_series, closed_after}

pub closed_snoc : (r b : ℕ) (front : List Row) (row : Row) → closed_after r b (front ++ row ∷ []) ≡ closes r (b + length front) row
closed_snoc r b [] row = ap (λ n. closes r n row) (omega arith)
closed_snoc r b (x ∷ []) row = ap (λ n. closes r n row) (omega arith)
closed_snoc r b (x ∷ y ∷ ys) row = closed_snoc r (b + 1) (y ∷ ys) row ∙ ap (λ n. closes r n row) (omega arith)

-- one more row in the last series, or in a new one
abbrev pub grow : ℕ → Row → List (List Row) → List (List Row)
grow r row [] = (row ∷ []) ∷ []
grow r row (s ∷ []) = cond (closed_after r 0 s) (s ∷ (row ∷ []) ∷ []) ((s ++ row ∷ []) ∷ [])
grow r row (s ∷ s2 ∷ ss) = s ∷ grow r row (s2 ∷ ss)

grow_closed : (r : ℕ) (row : Row) (s : List Row) (ss : List (List Row)) → closed_after r 0 s ≡ true → grow r row (s ∷ ss) ≡ s ∷ grow r row ss
grow_closed r row s [] h = ap (λ b. cond b (s ∷ (row ∷ []) ∷ []) ((s ++ row ∷ []) ∷ [])) h
grow_closed r row s (s2 ∷ ss) h = refl

cond_same : {A : Type 0} (b : Bool) (x : A) → cond b x x ≡ x
cond_same true x = refl
cond_same false x = refl

-- the first of the rows closes a series or not
grows_row : (r : ℕ) (row : Row) (b : Bool) (s : List Row) (new old new2 old2 : List (List Row)) →
    closed_after r 0 s ≡ b → new ≡ grow r row old → (b ≡ false → new2 ≡ grow r row old2) →
    cond b (s ∷ new) new2 ≡ grow r row (cond b (s ∷ old) old2)
grows_row r row true s new old new2 old2 h e f = ap (λ x. s ∷ x) e ∙ sym (grow_closed r row s old h)
grows_row r row false s new old new2 old2 h e f = f refl

grow_after : (r : ℕ) (front rows : List Row) (row : Row) → closed_after r 0 front ≡ false → series_after r front (rows ++ row ∷ []) ≡ grow r row (series_after r front rows)
grow_after r [] [] row h = cond_same (closes r 0 row) ((row ∷ []) ∷ [])
grow_after r (x ∷ xs) [] row h =
    cond_same (closes r (length (x ∷ xs)) row) ((x ∷ xs ++ row ∷ []) ∷ [])
    ∙ sym (ap (λ b. cond b ((x ∷ xs) ∷ (row ∷ []) ∷ []) ((x ∷ xs ++ row ∷ []) ∷ [])) h)
grow_after r front (q ∷ rows) row h =
    grows_row r row (closes r (length front) q) (front ++ q ∷ []) _ (series_after r [] rows) _ (series_after r (front ++ q ∷ []) rows)
    (closed_snoc r 0 front q ∙ ap (λ n. closes r n q) (omega arith))
    (grow_after r [] rows row refl)
    (λ e. grow_after r (front ++ q ∷ []) rows row (closed_snoc r 0 front q ∙ ap (λ n. closes r n q) (omega arith) ∙ e))

pub series_snoc : (r : ℕ) (rows : List Row) (row : Row) → series r (rows ++ row ∷ []) ≡ grow r row (series r rows)
series_snoc r rows row = grow_after r [] rows row refl

last_cons_at : (b : Bool) (s x y z : List Row) → last_series (s ∷ cond b (x ∷ y ∷ []) (z ∷ [])) ≡ last_series (cond b (x ∷ y ∷ []) (z ∷ []))
last_cons_at true s x y z = refl
last_cons_at false s x y z = refl

last_cons : (r : ℕ) (row : Row) (s s2 : List Row) (ss : List (List Row)) → last_series (s ∷ grow r row (s2 ∷ ss)) ≡ last_series (grow r row (s2 ∷ ss))
last_cons r row s s2 [] = last_cons_at (closed_after r 0 s2) s s2 (row ∷ []) (s2 ++ row ∷ [])
last_cons r row s s2 (t ∷ ss) = refl

-- a new series, or a longer last one
pub grow_new : (r : ℕ) (row : Row) (ss : List (List Row)) → (length ss ≡ 0) ⊎ (closed_after r 0 (last_series ss) ≡ true) → (length (grow r row ss) ≡ length ss + 1) × (last_series (grow r row ss) ≡ row ∷ [])
grow_new r row [] h = (refl, refl)
grow_new r row (s ∷ []) (inl h) = absurd (omega (arith, h))
grow_new r row (s ∷ []) (inr h) =
    (ap (λ b. length (cond b (s ∷ (row ∷ []) ∷ []) ((s ++ row ∷ []) ∷ []))) h, ap (λ b. last_series (cond b (s ∷ (row ∷ []) ∷ []) ((s ++ row ∷ []) ∷ []))) h)
grow_new r row (s ∷ s2 ∷ ss) (inl h) = absurd (omega (arith, h))
grow_new r row (s ∷ s2 ∷ ss) (inr h) =
    let d = grow_new r row (s2 ∷ ss) (inr h) in
    (omega (arith, d.0), last_cons r row s s2 ss ∙ d.1)

pub grow_longer : (r : ℕ) (row : Row) (ss : List (List Row)) → 0 < length ss → closed_after r 0 (last_series ss) ≡ false → (length (grow r row ss) ≡ length ss) × (last_series (grow r row ss) ≡ last_series ss ++ row ∷ [])
grow_longer r row [] h e = absurd (omega (arith, h))
grow_longer r row (s ∷ []) h e =
    (ap (λ b. length (cond b (s ∷ (row ∷ []) ∷ []) ((s ++ row ∷ []) ∷ []))) e, ap (λ b. last_series (cond b (s ∷ (row ∷ []) ∷ []) ((s ++ row ∷ []) ∷ []))) e)
grow_longer r row (s ∷ s2 ∷ ss) h e =
    let k : 0 < length (s2 ∷ ss) = omega arith in
    let d = grow_longer r row (s2 ∷ ss) k e in
    (omega (arith, d.0), last_cons r row s s2 ss ∙ d.1)

-- there are no more series than rows, and none is longer
begun_few : (front : List Row) → length (begun_series front) ≤ length front
begun_few [] = omega arith
begun_few (x ∷ xs) = omega arith

cond_few : (b : Bool) (s : List Row) (t u : List (List Row)) (n m : ℕ) → (length t ≤ n) → (length u ≤ m + n + 1) → length (cond b (s ∷ t) u) ≤ m + n + 1
cond_few true s t u n m h k = omega (arith, h)
cond_few false s t u n m h k = k

few_after : (r : ℕ) (front rows : List Row) → length (series_after r front rows) ≤ length front + length rows
few_after r front [] = omega (arith, begun_few front)
few_after r front (q ∷ rows) =
    let a = cond_few (closes r (length front) q) (front ++ q ∷ []) (series_after r [] rows) (series_after r (front ++ q ∷ []) rows) (length rows) (length front)
    (omega (arith, few_after r [] rows)) (omega (arith, few_after r (front ++ q ∷ []) rows, length-append front (q ∷ []))) in
    omega (arith, a)

pub few_series : (r : ℕ) (rows : List Row) → length (series r rows) ≤ length rows
few_series r rows = omega (arith, few_after r [] rows)

begun_short : (front : List Row) → length (last_series (begun_series front)) ≤ length front
begun_short [] = omega arith
begun_short (x ∷ xs) = omega arith

cons_short : (s : List Row) (t : List (List Row)) (n : ℕ) → length s ≤ n → length (last_series t) ≤ n → length (last_series (s ∷ t)) ≤ n
cons_short s [] n h k = h
cons_short s (x ∷ t) n h k = k

cond_short : (b : Bool) (t u : List (List Row)) (n : ℕ) → length (last_series t) ≤ n → length (last_series u) ≤ n → length (last_series (cond b t u)) ≤ n
cond_short true t u n h k = h
cond_short false t u n h k = k

short_after : (r : ℕ) (front rows : List Row) → length (last_series (series_after r front rows)) ≤ length front + length rows
short_after r front [] = omega (arith, begun_short front)
short_after r front (q ∷ rows) =
    cond_short (closes r (length front) q) ((front ++ q ∷ []) ∷ series_after r [] rows) (series_after r (front ++ q ∷ []) rows) (length front + length (q ∷ rows))
    (cons_short (front ++ q ∷ []) (series_after r [] rows) _ (omega (arith, length-append front (q ∷ []))) (omega (arith, short_after r [] rows)))
    (omega (arith, short_after r (front ++ q ∷ []) rows, length-append front (q ∷ [])))

pub short_series : (r : ℕ) (rows : List Row) → length (last_series (series r rows)) ≤ length rows
short_series r rows = omega (arith, short_after r [] rows)

-- a series has a row
begun_some : (front : List Row) → 0 < length (begun_series front) → 0 < length (last_series (begun_series front))
begun_some [] h = h
begun_some (x ∷ xs) h = omega arith

cons_some : (s : List Row) (t : List (List Row)) → 0 < length s → (0 < length t → 0 < length (last_series t)) → 0 < length (last_series (s ∷ t))
cons_some s [] h k = h
cons_some s (x ∷ t) h k = k (omega arith)

cond_some : (b : Bool) (t u : List (List Row)) → (0 < length (last_series t)) → (0 < length u → 0 < length (last_series u)) → 0 < length (cond b t u) → 0 < length (last_series (cond b t u))
cond_some true t u h k l = h
cond_some false t u h k l = k l

some_after : (r : ℕ) (front rows : List Row) → 0 < length (series_after r front rows) → 0 < length (last_series (series_after r front rows))
some_after r front [] h = begun_some front h
some_after r front (q ∷ rows) h =
    cond_some (closes r (length front) q) ((front ++ q ∷ []) ∷ series_after r [] rows) (series_after r (front ++ q ∷ []) rows)
    (cons_some (front ++ q ∷ []) (series_after r [] rows) (omega (arith, length-append front (q ∷ []))) (some_after r [] rows))
    (some_after r (front ++ q ∷ []) rows) h

pub last_some : (r : ℕ) (rows : List Row) → 0 < length (series r rows) → 0 < length (last_series (series r rows))
last_some r rows h = some_after r [] rows h
