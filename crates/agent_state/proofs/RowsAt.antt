-- The rows of an action as histories change. Other crates may cite these lemmas.
use Rattle.std.proofs.Common.{ℕ, zero, suc, ◌≡◌, ◌<◌, List, [], ◌∷◌, ◌++◌, Bool, true, false, cond, refl, sym, ap, ◌∙◌, arith, eqb, ltb, inl, inr, ◌⊎◌, rules}
use Rattle.std.specs.declared.option.Option.{Option}
use Rattle.std.specs.Prelude.{All, MatchOption, None, Some, filter}
use Rattle.std.proofs.lemmas.Bool.{eq-eqb, eqb-true, ne_eqb, lt-ltb, le-ltb, ltb-true, ltb-false}
use Rattle.std.proofs.lemmas.List.Elements.{All-head, All-nil, All-tail}
use Rattle.act_rules.specs.declared.row.Row.{Row}
use Rattle.act_rules.specs.Rows.{HasMoments, IsRows, RowsState}
use denote.Ref.{Bor}
use Rattle.agent_state.specs.Lookups.{rows_if}
use Rattle.agent_text.specs.Histories.{IsHistory, PlainHistory, rows_at, with_history, with_reported}

-- the rows of an action are rows of one
pub are_rows : (a : ℕ) (hs : List PlainHistory) → All IsHistory hs → IsRows (rows_at a hs)
are_rows a [] good = record { few = search rules; numbered = tt; ended = tt; moments = All-nil HasMoments }
are_rows a (h ∷ hs) good = by_id (eqb h.action a) (are_rows a hs (All-tail IsHistory h hs good))
  where
    by_id : (b : Bool) → IsRows (rows_at a hs) → IsRows (cond b h.rows (rows_at a hs))
    by_id true next = (All-head IsHistory h hs good).rows.numbered
    by_id false next = next

-- the rows of the first history with the action, where those with it pass
kept_all : (a : ℕ) (p : PlainHistory → Bool) → ((h : PlainHistory) → h.action ≡ a → p h ≡ true) → (hs ys : List PlainHistory) → rows_at a ys ≡ [] → rows_at a (filter p hs ++ ys) ≡ rows_at a hs
kept_all a p passes [] ys none = none
kept_all a p passes (h ∷ hs) ys none = by_id (eqb h.action a) refl (p h) refl (kept_all a p passes hs ys none)
  where
    by_id : (b : Bool) → eqb h.action a ≡ b → (q : Bool) → p h ≡ q → rows_at a (filter p hs ++ ys) ≡ rows_at a hs → rows_at a (cond q (h ∷ filter p hs) (filter p hs) ++ ys) ≡ cond (eqb h.action a) h.rows (rows_at a hs)
    by_id true e true is next = ap (λ b. cond b h.rows (rows_at a (filter p hs ++ ys))) e ∙ sym (ap (λ b. cond b h.rows (rows_at a hs)) e)
    by_id true e false is next = absurd (let so : p h ≡ true = passes h (eqb-true h.action a e) in cc)
    by_id false e true is next = ap (λ b. cond b h.rows (rows_at a (filter p hs ++ ys))) e ∙ next ∙ sym (ap (λ b. cond b h.rows (rows_at a hs)) e)
    by_id false e false is next = next ∙ sym (ap (λ b. cond b h.rows (rows_at a hs)) e)

-- none of those with the action passes
kept_none : (a : ℕ) (p : PlainHistory → Bool) → ((h : PlainHistory) → h.action ≡ a → p h ≡ false) → (hs ys : List PlainHistory) → rows_at a (filter p hs ++ ys) ≡ rows_at a ys
kept_none a p fails [] ys = refl
kept_none a p fails (h ∷ hs) ys = by_id (eqb h.action a) refl (p h) refl (kept_none a p fails hs ys)
  where
    by_id : (b : Bool) → eqb h.action a ≡ b → (q : Bool) → p h ≡ q → rows_at a (filter p hs ++ ys) ≡ rows_at a ys → rows_at a (cond q (h ∷ filter p hs) (filter p hs) ++ ys) ≡ rows_at a ys
    by_id b e false is next = next
    by_id true e true is next = absurd (let so : p h ≡ false = fails h (eqb-true h.action a e) in cc)
    by_id false e true is next = ap (λ b. cond b h.rows (rows_at a (filter p hs ++ ys))) e ∙ next

-- the same without histories behind them
filtered_all : (a : ℕ) (p : PlainHistory → Bool) → ((h : PlainHistory) → h.action ≡ a → p h ≡ true) → (hs : List PlainHistory) → rows_at a (filter p hs) ≡ rows_at a hs
filtered_all a p passes [] = refl
filtered_all a p passes (h ∷ hs) = by_id (eqb h.action a) refl (p h) refl (filtered_all a p passes hs)
  where
    by_id : (b : Bool) → eqb h.action a ≡ b → (q : Bool) → p h ≡ q → rows_at a (filter p hs) ≡ rows_at a hs → rows_at a (cond q (h ∷ filter p hs) (filter p hs)) ≡ cond (eqb h.action a) h.rows (rows_at a hs)
    by_id true e true is next = ap (λ b. cond b h.rows (rows_at a (filter p hs))) e ∙ sym (ap (λ b. cond b h.rows (rows_at a hs)) e)
    by_id true e false is next = absurd (let so : p h ≡ true = passes h (eqb-true h.action a e) in cc)
    by_id false e true is next = ap (λ b. cond b h.rows (rows_at a (filter p hs))) e ∙ next ∙ sym (ap (λ b. cond b h.rows (rows_at a hs)) e)
    by_id false e false is next = next ∙ sym (ap (λ b. cond b h.rows (rows_at a hs)) e)

filtered_none : (a : ℕ) (p : PlainHistory → Bool) → ((h : PlainHistory) → h.action ≡ a → p h ≡ false) → (hs : List PlainHistory) → rows_at a (filter p hs) ≡ []
filtered_none a p fails [] = refl
filtered_none a p fails (h ∷ hs) = by_id (eqb h.action a) refl (p h) refl (filtered_none a p fails hs)
  where
    by_id : (b : Bool) → eqb h.action a ≡ b → (q : Bool) → p h ≡ q → rows_at a (filter p hs) ≡ [] → rows_at a (cond q (h ∷ filter p hs) (filter p hs)) ≡ []
    by_id b e false is next = next
    by_id true e true is next = absurd (let so : p h ≡ false = fails h (eqb-true h.action a e) in cc)
    by_id false e true is next = ap (λ b. cond b h.rows (rows_at a (filter p hs))) e ∙ next

-- ---- a history at its action
pub rows_here : (h : PlainHistory) (hs : List PlainHistory) → rows_at h.action (with_history h hs) ≡ h.rows
rows_here h hs =
    kept_none h.action (λ other. ltb other.action h.action) (λ other e. le-ltb other.action h.action (omega (arith, e))) hs (h ∷ filter (λ other. ltb h.action other.action) hs)
    ∙ ap (λ b. cond b h.rows (rows_at h.action (filter (λ other. ltb h.action other.action) hs))) (eq-eqb h.action h.action refl)

pub rows_below : (h : PlainHistory) (hs : List PlainHistory) (a : ℕ) → a < h.action → rows_at a (with_history h hs) ≡ rows_at a hs
rows_below h hs a lt =
    let above = filter (λ (other : PlainHistory). ltb h.action other.action) hs in
    kept_all a (λ other. ltb other.action h.action) (λ other e. lt-ltb other.action h.action (omega (arith, e, lt))) hs (h ∷ above)
    (ap (λ b. cond b h.rows (rows_at a above)) (ne_eqb h.action a (λ e. omega (arith, e, lt))) ∙ filtered_none a (λ other. ltb h.action other.action) (λ other e. le-ltb h.action other.action (omega (arith, e, lt))) hs)

pub rows_above : (h : PlainHistory) (hs : List PlainHistory) (a : ℕ) → h.action < a → rows_at a (with_history h hs) ≡ rows_at a hs
rows_above h hs a lt =
    let above = filter (λ (other : PlainHistory). ltb h.action other.action) hs in
    kept_none a (λ other. ltb other.action h.action) (λ other e. le-ltb other.action h.action (omega (arith, e, lt))) hs (h ∷ above)
    ∙ ap (λ b. cond b h.rows (rows_at a above)) (ne_eqb h.action a (λ e. omega (arith, e, lt)))
    ∙ filtered_all a (λ other. ltb h.action other.action) (λ other e. lt-ltb h.action other.action (omega (arith, e, lt))) hs

either_side : (a b : ℕ) → (a ≡ b → ⊥) → (a < b) ⊎ (b < a)
either_side a b other = by_test (ltb a b) refl
  where
    by_test : (t : Bool) → ltb a b ≡ t → (a < b) ⊎ (b < a)
    by_test true e = inl (ltb-true a b e)
    by_test false e = inr (omega (arith, ltb-false a b e, other))

side : (h : PlainHistory) (hs : List PlainHistory) (a : ℕ) → (a < h.action) ⊎ (h.action < a) → rows_at a (with_history h hs) ≡ rows_at a hs
side h hs a (inl lt) = rows_below h hs a lt
side h hs a (inr lt) = rows_above h hs a lt

pub rows_other : (h : PlainHistory) (hs : List PlainHistory) (a : ℕ) → (a ≡ h.action → ⊥) → rows_at a (with_history h hs) ≡ rows_at a hs
rows_other h hs a other = side h hs a (either_side a h.action other)

-- ---- reports
pub rows_reported : (a most : ℕ) (hs : List PlainHistory) → rows_at a (with_reported most hs) ≡ rows_at a hs
rows_reported a most [] = refl
rows_reported a zero (h ∷ hs) = refl
rows_reported a (suc most) (h ∷ hs) = by_pending h.pending (rows_reported a most hs) (rows_reported a (suc most) hs)
  where
    by_pending : (b : Bool) → rows_at a (with_reported most hs) ≡ rows_at a hs → rows_at a (with_reported (suc most) hs) ≡ rows_at a hs
        → rows_at a (cond b (record h { pending = false } ∷ with_reported most hs) (h ∷ with_reported (suc most) hs)) ≡ cond (eqb h.action a) h.rows (rows_at a hs)
    by_pending true fewer same = ap (λ l. cond (eqb h.action a) h.rows l) fewer
    by_pending false fewer same = ap (λ l. cond (eqb h.action a) h.rows l) same

-- the rows that were found of an action
pub found_rows : (answer : Option (Bor RowsState)) (rows : List Row) → MatchOption answer (rows ≡ []) (λ found. found.now.rows ≡ rows) → rows_if answer ≡ rows
found_rows None rows h = sym h
found_rows (Some found) rows h = h
