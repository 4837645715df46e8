-- What stood before marks, and that it can be put back.
use Rattle.std.proofs.Common.{ℕ, zero, suc, ◌≡◌, ◌-◌, ◌&&◌, ◌⊎◌, ℤ, List, [], ◌∷◌, ◌++◌, Bool, true, false, cond, refl, sym, ap, ◌∙◌, subst, arith, eqb, length, map, inl, inr, All, Option, None, Some}
use Rattle.std.specs.Prelude.{Contains, IfSome, is_some, slice_get}
use Rattle.std.proofs.lemmas.Bool.{cases_eq, eqb-true, ne_eqb}
use Rattle.std.proofs.lemmas.List.{map-append}
use Rattle.std.proofs.lemmas.List.Elements.{All-head, All-tail, All-weaker, Contains-append_left, Contains-push}
use Rattle.act_rules.specs.declared.row.Row.{Row}
use Rattle.act_rules.specs.Rows.{last_row, with_last}
use Rattle.agent_text.specs.Befores.{IsHistoryOf, PlainBefore, before_of, listed, with_before}
use Rattle.agent_text.specs.Histories.{AreHistories, PlainHistory, cleared, rows_at, with_cleared}
use Rattle.agent_text.proofs.BeforeLemmas.{forgets_cleared, found_good, same_before}
use Rattle.agent_core.specs.Marked.{AreBefore, AreOwn, Covers, UndoneSame, undone}
use Rattle.agent_core.specs.Turns.{may_clear}

abbrev pub ids_of : List PlainBefore → List ℕ
ids_of bs = map (λ b. b.action) bs

-- ---- a mark at another action
abbrev one_before : PlainBefore → PlainHistory → List PlainHistory
one_before b h = cond (eqb h.action b.action) (listed b.history) (h ∷ [])

abbrev one_cleared : ℕ → ℤ → PlainHistory → PlainHistory
one_cleared id moment h = cond (eqb h.action id) (cleared moment h) h

kept_action : (moment : ℤ) (h : PlainHistory) (b : Bool) → (cond b (cleared moment h) h).action ≡ h.action
kept_action moment h true = refl
kept_action moment h false = refl

abbrev IsOwn : PlainBefore → Type 0
IsOwn b = IfSome b.history (λ h. h.action ≡ b.action)

kept_listed : (action id : ℕ) (moment : ℤ) (o : Option PlainHistory) → IfSome o (λ h. h.action ≡ action) → (action ≡ id → ⊥) → with_cleared id moment (listed o) ≡ listed o
kept_listed action id moment None own other = refl
kept_listed action id moment (Some x) own other = λ j. cond (ne_eqb x.action id (λ same. other (sym own ∙ same)) j) (cleared moment x) x ∷ []

commutes_cleared : (b : PlainBefore) (id : ℕ) (moment : ℤ) (hs : List PlainHistory) → IsOwn b → (b.action ≡ id → ⊥) → with_before b (with_cleared id moment hs) ≡ with_cleared id moment (with_before b hs)
commutes_cleared b id moment [] own other = refl
commutes_cleared b id moment (h ∷ hs) own other = by_id (eqb h.action b.action) refl (commutes_cleared b id moment hs own other)
  where
    one : PlainHistory → PlainHistory
    one = one_cleared id moment

    at : (t : Bool) → eqb h.action b.action ≡ t → one_before b (one h) ≡ cond t (listed b.history) (one h ∷ [])
    at t e = ap (λ s. cond s (listed b.history) (one h ∷ [])) (ap (λ a. eqb a b.action) (kept_action moment h (eqb h.action id)) ∙ e)

    by_id : (t : Bool) → eqb h.action b.action ≡ t → with_before b (with_cleared id moment hs) ≡ with_cleared id moment (with_before b hs)
        → one_before b (one h) ++ with_before b (with_cleared id moment hs) ≡ with_cleared id moment (one_before b h ++ with_before b hs)
    by_id true e next =
        (λ j. at true e j ++ next j)
        ∙ sym ((λ j. with_cleared id moment (cond (e j) (listed b.history) (h ∷ []) ++ with_before b hs)) ∙ map-append one (listed b.history) (with_before b hs)
        ∙ ap (λ l. l ++ with_cleared id moment (with_before b hs)) (kept_listed b.action id moment b.history own other))
    by_id false e next = (λ j. at false e j ++ next j) ∙ sym (λ j. with_cleared id moment (cond (e j) (listed b.history) (h ∷ []) ++ with_before b hs))

-- ---- marks and what is put back
either_way : (bs : List PlainBefore) (id : ℕ) (moment : ℤ) (hs : List PlainHistory) → AreOwn bs
    → (undone bs (with_cleared id moment hs) ≡ undone bs hs) ⊎ (undone bs (with_cleared id moment hs) ≡ with_cleared id moment (undone bs hs))
either_way [] id moment hs own = inr refl
either_way (b ∷ bs) id moment hs own = by (either_way bs id moment hs (All-tail IsOwn b bs own))
  where
    there : undone bs (with_cleared id moment hs) ≡ with_cleared id moment (undone bs hs) → b.action ≡ id → with_before b (undone bs (with_cleared id moment hs)) ≡ with_before b (undone bs hs)
    there e same = ap (with_before b) e ∙ subst (λ a. with_before b (with_cleared a moment (undone bs hs)) ≡ with_before b (undone bs hs)) same (forgets_cleared b moment (undone bs hs))

    by : (undone bs (with_cleared id moment hs) ≡ undone bs hs) ⊎ (undone bs (with_cleared id moment hs) ≡ with_cleared id moment (undone bs hs))
        → (undone (b ∷ bs) (with_cleared id moment hs) ≡ undone (b ∷ bs) hs) ⊎ (undone (b ∷ bs) (with_cleared id moment hs) ≡ with_cleared id moment (undone (b ∷ bs) hs))
    by (inl e) = inl (ap (with_before b) e)
    by (inr e) = elim (cases_eq b.action id) [
      | inl same ↦ inl (there e same)
      | inr other ↦ inr (ap (with_before b) e ∙ commutes_cleared b id moment (undone bs hs) (All-head IsOwn b bs own) other)
    ]

undone_has : (bs : List PlainBefore) (id : ℕ) (moment : ℤ) (hs : List PlainHistory) → AreOwn bs → Contains (ids_of bs) id → undone bs (with_cleared id moment hs) ≡ undone bs hs
undone_has [] id moment hs own (k, within, e) = absurd (omega (arith, within))
undone_has (b ∷ bs) id moment hs own (suc k, within, e) = ap (with_before b) (undone_has bs id moment hs (All-tail IsOwn b bs own) (k, omega (arith, within), e))
undone_has (b ∷ bs) id moment hs own (zero, within, same) = by (either_way bs id moment hs (All-tail IsOwn b bs own))
  where
    by : (undone bs (with_cleared id moment hs) ≡ undone bs hs) ⊎ (undone bs (with_cleared id moment hs) ≡ with_cleared id moment (undone bs hs)) → with_before b (undone bs (with_cleared id moment hs)) ≡ with_before b (undone bs hs)
    by (inl e) = ap (with_before b) e
    by (inr e) = ap (with_before b) e ∙ subst (λ a. with_before b (with_cleared a moment (undone bs hs)) ≡ with_before b (undone bs hs)) same (forgets_cleared b moment (undone bs hs))

-- ---- what may be marked
never : (b : Bool) → (b && false) ≡ false
never true = refl
never false = refl

last_step : (row next : Row) (rows : List Row) → last_row (row ∷ next ∷ rows) ≡ last_row (next ∷ rows)
last_step row next rows =
    let one : length (row ∷ next ∷ rows) - 1 ≡ suc (length (next ∷ rows) - 1) = omega arith in
    ap (slice_get (row ∷ next ∷ rows)) one

abbrev marked_row : ℤ → Row → Row
marked_row moment row = record row { cleared = Some moment }

cleared_not : (moment : ℤ) (rows : List Row) → may_clear (last_row (with_last rows (marked_row moment))) ≡ false
cleared_not moment [] = refl
cleared_not moment (row ∷ []) = never (is_some row.end)
cleared_not moment (row ∷ next ∷ []) = ap may_clear (last_step row (marked_row moment next) []) ∙ cleared_not moment (next ∷ [])
cleared_not moment (row ∷ next ∷ other ∷ rows) = ap may_clear (last_step row next (with_last (other ∷ rows) (marked_row moment))) ∙ cleared_not moment (next ∷ other ∷ rows)

untrue : {P : Type 0} (b : Bool) → b ≡ false → b ≡ true → P
untrue b not is = absurd (cc)

may_before : (a id : ℕ) (moment : ℤ) (hs : List PlainHistory) → may_clear (last_row (rows_at a (with_cleared id moment hs))) ≡ true → may_clear (last_row (rows_at a hs)) ≡ true
may_before a id moment [] may = may
may_before a id moment (h ∷ hs) may = by (eqb h.action id) (eqb h.action a) refl (may_before a id moment hs) may
  where
    May : List Row → Type 0
    May = λ rows. may_clear (last_row rows) ≡ true

    by : (s t : Bool) → eqb h.action a ≡ t → (May (rows_at a (with_cleared id moment hs)) → May (rows_at a hs))
        → May (cond (eqb (cond s (cleared moment h) h).action a) (cond s (cleared moment h) h).rows (rows_at a (with_cleared id moment hs))) → May (cond (eqb h.action a) h.rows (rows_at a hs))
    by true true e next may = untrue (may_clear (last_row (with_last h.rows (marked_row moment)))) (cleared_not moment h.rows)
        (subst (λ t. May (cond t (cleared moment h).rows (rows_at a (with_cleared id moment hs)))) e may)
    by true false e next may = subst (λ t. May (cond t h.rows (rows_at a hs))) (sym e) (next (subst (λ t. May (cond t (cleared moment h).rows (rows_at a (with_cleared id moment hs)))) e may))
    by false true e next may = subst (λ t. May (cond t h.rows (rows_at a hs))) (sym e) (subst (λ t. May (cond t h.rows (rows_at a (with_cleared id moment hs)))) e may)
    by false false e next may = subst (λ t. May (cond t h.rows (rows_at a hs))) (sym e) (next (subst (λ t. May (cond t h.rows (rows_at a (with_cleared id moment hs)))) e may))

pub same_none : (hs : List PlainHistory) → UndoneSame hs hs
same_none hs = record { undo = λ bs own covers. refl; covers = λ bs covers. covers }

pub same_then : (hs mid now : List PlainHistory) → UndoneSame hs mid → UndoneSame mid now → UndoneSame hs now
same_then hs mid now one other = record {
  undo = λ bs own covers. other.undo bs own (one.covers bs covers) ∙ one.undo bs own covers;
  covers = λ bs covers. other.covers bs (one.covers bs covers);
}

pub same_marked : (id : ℕ) (moment : ℤ) (hs : List PlainHistory) → may_clear (last_row (rows_at id hs)) ≡ true → UndoneSame hs (with_cleared id moment hs)
same_marked id moment hs may = record {
  undo = λ bs own covers. undone_has bs id moment hs own (covers id may);
  covers = λ bs covers a is. covers a (may_before a id moment hs is);
}

-- ---- what stood before
own_of : (hs : List PlainHistory) (b : PlainBefore) → AreHistories hs → b ≡ before_of b.action hs → IsOwn b
own_of hs b are is = subst IsOwn (sym is) (owned (before_of b.action hs).history (found_good b.action hs are.good))
  where
    owned : (o : Option PlainHistory) → IfSome o (IsHistoryOf b.action) → IfSome o (λ h. h.action ≡ b.action)
    owned None good = tt
    owned (Some h) good = good.own

pub are_own : (hs : List PlainHistory) (bs : List PlainBefore) → AreHistories hs → All (λ b. b ≡ before_of b.action hs) bs → AreOwn bs
are_own hs bs are stand = All-weaker (λ b. b ≡ before_of b.action hs) IsOwn (λ b is. own_of hs b are is) bs stand

pub undone_same : (hs : List PlainHistory) (bs : List PlainBefore) → AreHistories hs → All (λ b. b ≡ before_of b.action hs) bs → undone bs hs ≡ hs
undone_same hs [] are stand = refl
undone_same hs (b ∷ bs) are stand =
    ap (with_before b) (undone_same hs bs are (All-tail (λ b. b ≡ before_of b.action hs) b bs stand))
    ∙ ap (λ x. with_before x hs) (All-head (λ b. b ≡ before_of b.action hs) b bs stand) ∙ same_before b.action hs are

-- what stood before marks is put back
pub undone_marks : (hs now : List PlainHistory) (bs : List PlainBefore) → AreHistories hs → AreBefore bs hs → UndoneSame hs now → undone bs now ≡ hs
undone_marks hs now bs are before same = same.undo bs (are_own hs bs are before.stand) before.covers ∙ undone_same hs bs are before.stand

-- ---- one more
pub has_more : (bs : List PlainBefore) (b : PlainBefore) (action : ℕ) → Contains (ids_of bs) action → Contains (ids_of (bs ++ b ∷ [])) action
has_more bs b action has =
    subst (λ l. Contains l action) (sym (map-append (λ (x : PlainBefore). x.action) bs (b ∷ []))) (Contains-append_left (ids_of bs) (b.action ∷ []) action has)

pub has_last : (bs : List PlainBefore) (b : PlainBefore) → Contains (ids_of (bs ++ b ∷ [])) b.action
has_last bs b = subst (λ l. Contains l b.action) (sym (map-append (λ (x : PlainBefore). x.action) bs (b ∷ []))) (Contains-push (ids_of bs) b.action)

-- the last one is put back first
pub undone_last : (bs : List PlainBefore) (b : PlainBefore) (hs : List PlainHistory) → undone (bs ++ b ∷ []) hs ≡ undone bs (with_before b hs)
undone_last [] b hs = refl
undone_last (x ∷ bs) b hs = ap (with_before x) (undone_last bs b hs)

-- each history that may be marked is covered, and so is each action
pub covered : (bs : List PlainBefore) (hs : List PlainHistory) → All (λ h. may_clear (last_row h.rows) ≡ true → Contains (ids_of bs) h.action) hs → Covers bs hs
covered bs [] all action may = untrue (may_clear None) refl may
covered bs (h ∷ hs) all action may = by (eqb h.action action) refl (covered bs hs (All-tail Covered h hs all) action) may
  where
    Covered : PlainHistory → Type 0
    Covered = λ h. may_clear (last_row h.rows) ≡ true → Contains (ids_of bs) h.action

    by : (t : Bool) → eqb h.action action ≡ t → (may_clear (last_row (rows_at action hs)) ≡ true → Contains (ids_of bs) action) → may_clear (last_row (cond (eqb h.action action) h.rows (rows_at action hs))) ≡ true → Contains (ids_of bs) action
    by true e next may = subst (Contains (ids_of bs)) (eqb-true h.action action e) (All-head Covered h hs all (subst (λ t. may_clear (last_row (cond t h.rows (rows_at action hs))) ≡ true) e may))
    by false e next may = next (subst (λ t. may_clear (last_row (cond t h.rows (rows_at action hs))) ≡ true) e may)
