-- A report that is dropped from an outbox. Other crates may cite these lemmas.
use Rattle.std.proofs.Common.{ℕ, zero, suc, ◌≡◌, ◌+◌, ◌<◌, ◌≤◌, Bool, true, false, cond, List, [], ◌∷◌, ◌++◌, length, get_or, take, drop, refl, sym, ap, subst, ◌∙◌, arith, eqb, ltb, Some, None}
use Rattle.std.specs.Prelude.{All, filter, not, ◌||◌}
use Rattle.std.specs.List.{position, position_or_len}
use Rattle.std.proofs.lemmas.Bool.{eq-eqb, eqb-true, ne_eqb, ltb-false, le-ltb}
use Rattle.std.proofs.lemmas.List.Elements.{All-filter, All-head, All-tail}
use Rattle.std.proofs.lemmas.List.Filters.{length-filter_both}
use Rattle.std.proofs.lemmas.List.Kept.{AllPairs-filter}
use Rattle.report_text.specs.Reports.{IsReport}
use Rattle.agent_text.specs.SavedTexts.{AreOutbox}
use Rattle.report_text.specs.declared.report.Report.{Report}
use Rattle.line_forms.proofs.Rising.{Rises, increasing_from_rises, rises_from_increasing, rises_head, rises_tail}
use Rattle.agent_state.specs.Changes.{has_report, shown_without, without_report}

abbrev pub seq_of : Report → ℕ
seq_of report = report.seq

or_true : (b : Bool) → (b || true) ≡ true
or_true true = refl
or_true false = refl

-- later reports are kept
others_kept : (seq : ℕ) (xs : List Report) → All (λ y. seq < seq_of y) xs → without_report seq xs ≡ xs
others_kept seq [] later = refl
others_kept seq (y ∷ ys) later =
    let rest = without_report seq ys in
    let above : seq < y.seq = All-head (λ y. seq < seq_of y) y ys later in
    ap (λ b. cond (not b) (y ∷ rest) rest) (ne_eqb y.seq seq (λ e. omega (arith, e, above))) ∙ ap (λ l. y ∷ l) (others_kept seq ys (All-tail (λ y. seq < seq_of y) y ys later))

-- a report before the one with the number has another
before_other : (seq i : ℕ) (x : Report) (xs : List Report) (r : Report) → Rises seq_of (x ∷ xs) → i < length xs → r ≡ get_or xs i r → r.seq ≡ seq → eqb x.seq seq ≡ false
before_other seq i x xs r up inside at is =
    let below : x.seq < (get_or xs i r).seq = rises_head seq_of x xs up i r inside in
    let same : (get_or xs i r).seq ≡ seq = ap seq_of (sym at) ∙ is in
    ne_eqb x.seq seq (λ e. omega (arith, e, below, same))

pub has_there : (seq i : ℕ) (xs : List Report) (r : Report) → i < length xs → r ≡ get_or xs i r → r.seq ≡ seq → has_report seq xs ≡ true
has_there seq i [] r inside at is = absurd (omega arith)
has_there seq zero (x ∷ xs) r inside at is = ap (λ b. b || has_report seq xs) (eq-eqb x.seq seq (ap seq_of (sym at) ∙ is))
has_there seq (suc i) (x ∷ xs) r inside at is = ap (λ b. eqb x.seq seq || b) (has_there seq i xs r (omega arith) at is) ∙ or_true (eqb x.seq seq)

pub without_there : (seq i : ℕ) (xs : List Report) (r : Report) → Rises seq_of xs → i < length xs → r ≡ get_or xs i r → r.seq ≡ seq → take i xs ++ drop (suc i) xs ≡ without_report seq xs
without_there seq i [] r up inside at is = absurd (omega arith)
without_there seq zero (x ∷ xs) r up inside at is =
    let same : x.seq ≡ seq = ap seq_of (sym at) ∙ is in
    let rest = without_report seq xs in
    sym (ap (λ b. cond (not b) (x ∷ rest) rest) (eq-eqb x.seq seq same) ∙ others_kept seq xs (subst (λ n. All (λ y. n < seq_of y) xs) same (rises_head seq_of x xs up)))
without_there seq (suc i) (x ∷ xs) r up inside at is =
    let rest = without_report seq xs in
    ap (λ l. x ∷ l) (without_there seq i xs r (rises_tail seq_of x xs up) (omega arith) at is)
    ∙ sym (ap (λ b. cond (not b) (x ∷ rest) rest) (before_other seq i x xs r up (omega arith) at is))

-- one of those before the place is dropped
pub shown_there : (seq i n : ℕ) (xs : List Report) (r : Report) → Rises seq_of xs → i < length xs → r ≡ get_or xs i r → r.seq ≡ seq → i ≤ n → shown_without seq (suc n) xs ≡ n
shown_there seq i n [] r up inside at is le = absurd (omega arith)
shown_there seq zero n (x ∷ xs) r up inside at is le = ap (λ b. cond b n (suc (shown_without seq n xs))) (eq-eqb x.seq seq (ap seq_of (sym at) ∙ is))
shown_there seq (suc i) zero (x ∷ xs) r up inside at is le = absurd (omega arith)
shown_there seq (suc i) (suc n) (x ∷ xs) r up inside at is le =
    ap (λ b. cond b (suc n) (suc (shown_without seq (suc n) xs))) (before_other seq i x xs r up (omega arith) at is)
    ∙ ap suc (shown_there seq i n xs r (rises_tail seq_of x xs up) (omega arith) at is (omega arith))

-- none of those before the place is dropped
pub shown_before : (seq i n : ℕ) (xs : List Report) (r : Report) → Rises seq_of xs → i < length xs → r ≡ get_or xs i r → r.seq ≡ seq → n ≤ i → shown_without seq n xs ≡ n
shown_before seq i n [] r up inside at is le = refl
shown_before seq i zero (x ∷ xs) r up inside at is le = refl
shown_before seq zero (suc n) (x ∷ xs) r up inside at is le = absurd (omega arith)
shown_before seq (suc i) (suc n) (x ∷ xs) r up inside at is le =
    ap (λ b. cond b n (suc (shown_without seq n xs))) (before_other seq i x xs r up (omega arith) at is)
    ∙ ap suc (shown_before seq i n xs r (rises_tail seq_of x xs up) (omega arith) at is (omega arith))

-- no report has the number
isnt_some : {X : Type 0} (b : Bool) (x : X) → cond b (Some x) None ≡ None → b ≡ false
isnt_some true x e = absurd (cc)
isnt_some false x e = refl

-- the first place that passes is behind all of these
not_before : (p : Report → Bool) (x : Report) (xs : List Report) → p x ≡ false → position p (x ∷ xs) ≡ None → position p xs ≡ None
not_before p x xs isnt none =
    let n = position_or_len p xs in
    let whole : position_or_len p (x ∷ xs) ≡ 1 + n = ap (λ b. cond (not b) (1 + n) 0) isnt in
    let out = ltb-false (position_or_len p (x ∷ xs)) (length (x ∷ xs)) (isnt_some (ltb (position_or_len p (x ∷ xs)) (length (x ∷ xs))) (position_or_len p (x ∷ xs)) none) in
    let behind : ltb n (length xs) ≡ false = le-ltb n (length xs) (omega (arith, whole, out)) in
    ap (λ b. cond b (Some n) None) behind

pub none_there : (seq : ℕ) (xs : List Report) → position (λ report. eqb (seq_of report) seq) xs ≡ None → has_report seq xs ≡ false
none_there seq [] none = refl
none_there seq (x ∷ xs) none = first (eqb x.seq seq) refl (λ later. none_there seq xs later)
  where
    p : Report → Bool
    p report = eqb (seq_of report) seq

    first : (b : Bool) → eqb x.seq seq ≡ b → (position (λ report. eqb (seq_of report) seq) xs ≡ None → has_report seq xs ≡ false) → (eqb x.seq seq || has_report seq xs) ≡ false
    first true e next =
        let whole : position_or_len p (x ∷ xs) ≡ 0 = ap (λ b. cond (not b) (1 + position_or_len p xs) 0) e in
        let out = ltb-false (position_or_len p (x ∷ xs)) (length (x ∷ xs)) (isnt_some (ltb (position_or_len p (x ∷ xs)) (length (x ∷ xs))) (position_or_len p (x ∷ xs)) none) in
        absurd (omega (arith, whole, out))
    first false e next = ap (λ b. b || has_report seq xs) e ∙ next (not_before p x xs e none)

-- the saved ones stay among the reports
pub shown_within : (seq shown : ℕ) (xs : List Report) → Rises seq_of xs → shown ≤ length xs → shown_without seq shown xs ≤ length (without_report seq xs)
shown_within seq shown [] up le = le
shown_within seq zero (x ∷ xs) up le = omega arith
shown_within seq (suc n) (x ∷ xs) up le = by_test (eqb x.seq seq) refl (shown_within seq n xs (rises_tail seq_of x xs up) (omega arith))
  where
    by_test : (b : Bool) → eqb x.seq seq ≡ b → shown_without seq n xs ≤ length (without_report seq xs)
        → cond b n (suc (shown_without seq n xs)) ≤ length (cond (not b) (x ∷ without_report seq xs) (without_report seq xs))
    by_test true e next =
        let same : x.seq ≡ seq = eqb-true x.seq seq e in
        let kept : without_report seq xs ≡ xs = others_kept seq xs (subst (λ m. All (λ y. m < seq_of y) xs) same (rises_head seq_of x xs up)) in
        subst (λ l. n ≤ length l) (sym kept) (omega arith)
    by_test false e next = omega (arith, next)

pub outbox_without : (computer : List ℕ) (next seq : ℕ) (xs : List Report) → AreOutbox computer next xs → AreOutbox computer next (without_report seq xs)
outbox_without computer next seq xs are =
    let p = λ (report : Report). not (eqb report.seq seq) in
    let up : Rises seq_of xs = rises_from_increasing seq_of xs are.ascending in
    record {
      few = omega (arith, are.few, length-filter_both p (λ x. not (p x)) (λ x. refl) xs);
      good = All-filter p IsReport xs are.good;
      own = All-filter p (λ report. report.computer ≡ computer) xs are.own;
      ascending = increasing_from_rises seq_of (filter p xs) (AllPairs-filter (λ (x y : Report). seq_of x < seq_of y) p xs up);
      below = All-filter p (λ report. report.seq < next) xs are.below;
    }
