-- Marks that are made one after another.
use Rattle.std.proofs.Common.{ℕ, ◌≡◌, ◌<◌, ℤ, List, [], ◌∷◌, Bool, true, false, cond, ◌||◌, eqb, refl, sym, ap, ◌∙◌, arith, Some}
use Rattle.std.specs.Prelude.{All}
use Rattle.std.specs.List.{list_any}
use Rattle.std.proofs.lemmas.Bool.{cond_both, eqb-true, ne_eqb}
use Rattle.std.proofs.lemmas.List.Elements.{All-head, All-tail}
use Rattle.act_rules.specs.declared.row.Row.{Row}
use Rattle.act_rules.specs.Rows.{last_row, with_last}
use Rattle.fix_site.specs.declared.action.Action.{Action}
use Rattle.agent_text.specs.Histories.{PlainHistory, cleared, rows_at, with_cleared}
use Rattle.agent_core.specs.Turns.{may_clear}
use Rattle.first_due.specs.Marked.{uncleared, with_marks}

-- ---- the histories
abbrev clear : ℤ → Row → Row
clear moment row = record row { cleared = Some moment }

-- clearing twice is clearing
last_twice : (moment : ℤ) (rows : List Row) → with_last (with_last rows (clear moment)) (clear moment) ≡ with_last rows (clear moment)
last_twice moment [] = refl
last_twice moment (row ∷ []) = refl
last_twice moment (row ∷ next ∷ []) = refl
last_twice moment (row ∷ next ∷ third ∷ rows) = ap (λ l. row ∷ l) (last_twice moment (next ∷ third ∷ rows))

twice : (moment : ℤ) (h : PlainHistory) → cleared moment (cleared moment h) ≡ cleared moment h
twice moment h = ap (λ rows. record h { rows = rows }) (last_twice moment h.rows)

-- the mark of one action, and then those of others, in one history
both : (moment : ℤ) (ids : List ℕ) (h : PlainHistory) (b : Bool)
    → cond (list_any (λ id. eqb (cond b (cleared moment h) h).action id) ids) (cleared moment (cond b (cleared moment h) h)) (cond b (cleared moment h) h)
    ≡ cond (b || list_any (λ id. eqb h.action id) ids) (cleared moment h) h
both moment ids h false = refl
both moment ids h true =
    cond_both (list_any (λ id. eqb h.action id) ids) (cleared moment (cleared moment h)) (cleared moment h) (λ x. x ≡ cleared moment h) (λ e. twice moment h) (λ e. refl)

pub marks_more : (moment : ℤ) (id : ℕ) (ids : List ℕ) (hs : List PlainHistory) → with_marks ids moment (with_cleared id moment hs) ≡ with_marks (id ∷ ids) moment hs
marks_more moment id ids [] = refl
marks_more moment id ids (h ∷ hs) = λ j. both moment ids h (eqb h.action id) j ∷ marks_more moment id ids hs j

pub marks_none : (moment : ℤ) (hs : List PlainHistory) → with_marks [] moment hs ≡ hs
marks_none moment [] = refl
marks_none moment (h ∷ hs) = ap (λ l. h ∷ l) (marks_none moment hs)

-- ---- the rows of other actions
rows_other : (moment : ℤ) (id other : ℕ) (hs : List PlainHistory) → id < other → rows_at other (with_cleared id moment hs) ≡ rows_at other hs
rows_other moment id other [] lt = refl
rows_other moment id other (h ∷ hs) lt = by_id (eqb h.action id) refl (rows_other moment id other hs lt)
  where
    by_id : (b : Bool) → eqb h.action id ≡ b → rows_at other (with_cleared id moment hs) ≡ rows_at other hs
        → rows_at other (cond b (cleared moment h) h ∷ with_cleared id moment hs) ≡ cond (eqb h.action other) h.rows (rows_at other hs)
    by_id false e next = ap (cond (eqb h.action other) h.rows) next
    by_id true e next =
        let is : h.action ≡ id = eqb-true h.action id e in
        let not_it : eqb h.action other ≡ false = ne_eqb h.action other (λ same. omega (arith, is, same, lt)) in
        ap (λ b. cond b (cleared moment h).rows (rows_at other (with_cleared id moment hs))) not_it
        ∙ next
        ∙ sym (ap (λ b. cond b h.rows (rows_at other hs)) not_it)

-- a mark leaves those uncleared that come after its action
pub uncleared_after : (moment : ℤ) (id : ℕ) (hs : List PlainHistory) (actions : List Action) → All (λ (action : Action). id < action.id) actions → uncleared (with_cleared id moment hs) actions ≡ uncleared hs actions
uncleared_after moment id hs [] above = refl
uncleared_after moment id hs (action ∷ actions) above =
    let Above : Action → Type 0 = λ a. id < a.id in
    let same : rows_at action.id (with_cleared id moment hs) ≡ rows_at action.id hs = rows_other moment id action.id hs (All-head Above action actions above) in
    let next : uncleared (with_cleared id moment hs) actions ≡ uncleared hs actions = uncleared_after moment id hs actions (All-tail Above action actions above) in
    λ j. cond (may_clear (last_row (same j))) (action ∷ next j) (next j)

-- one action more
pub uncleared_taken : (hs : List PlainHistory) (action : Action) (actions : List Action) → may_clear (last_row (rows_at action.id hs)) ≡ true → uncleared hs (action ∷ actions) ≡ action ∷ uncleared hs actions
uncleared_taken hs action actions is = ap (λ b. cond b (action ∷ uncleared hs actions) (uncleared hs actions)) is

pub uncleared_passed : (hs : List PlainHistory) (action : Action) (actions : List Action) → may_clear (last_row (rows_at action.id hs)) ≡ false → uncleared hs (action ∷ actions) ≡ uncleared hs actions
uncleared_passed hs action actions is = ap (λ b. cond b (action ∷ uncleared hs actions) (uncleared hs actions)) is
