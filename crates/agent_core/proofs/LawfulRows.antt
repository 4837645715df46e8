-- Lawful rows of each action.
use Rattle.std.proofs.Common.{ℕ, zero, suc, ◌≡◌, ℤ, List, [], ◌∷◌, ◌++◌, cond, true, false, Some, refl, subst, eqb}
use Rattle.std.specs.Prelude.{filter, nat_lt}
use Rattle.std.proofs.lemmas.Bool.{cond_both, eqb-true}
use Rattle.std.proofs.lemmas.List.Elements.{All-append, All-cons, All-filter, All-head, All-map, All-tail, All-weaker}
use Rattle.act_rules.specs.declared.rule.Rules.{Rules}
use Rattle.act_rules.specs.declared.row.Note.{Note}
use Rattle.act_rules.specs.declared.row.Outcome.{Outcome}
use Rattle.act_rules.specs.declared.row.Row.{Row}
use Rattle.act_rules.specs.Lawful as rows
use Rattle.act_rules.specs.Owed.{IsOwed}
use Rattle.act_rules.specs.Rows.{with_last}
use Rattle.agent_text.specs.Histories.{PlainHistory, cleared, rows_at, with_begun, with_cleared, with_ended, with_history, with_reported}
use Rattle.agent_core.specs.Stops.{AreLawful, Table}

-- the rows of each action are lawful
pub lawful_at : ((rules : Rules) → rows.AreLawful rules []) → (table : Table) (action : ℕ) (hs : List PlainHistory) → AreLawful table hs → rows.AreLawful (table action) (rows_at action hs)
lawful_at none table action [] lawful = none (table action)
lawful_at none table action (h ∷ hs) lawful =
    let P : PlainHistory → Type 0 = λ x. rows.AreLawful (table x.action) x.rows in
    cond_both (eqb h.action action) h.rows (rows_at action hs) (rows.AreLawful (table action))
    (λ e. subst (λ a. rows.AreLawful (table a) h.rows) (eqb-true h.action action e) (All-head P h hs lawful))
    (λ e. lawful_at none table action hs (All-tail P h hs lawful))

-- ---- changes
-- the laws of rows that change
pub record LawfulChanges : Type 0 where
  pub none : (rules : Rules) → rows.AreLawful rules []
  pub begun : (rules : Rules) (list : List Row) (row : Row) → rows.AreLawful rules list → IsOwed rules list row.begun → rows.AreLawful rules (list ++ row ∷ [])
  pub changed : (rules : Rules) (list : List Row) (change : Row → Row) → ((row : Row) → (change row).begun ≡ row.begun) → rows.AreLawful rules list → rows.AreLawful rules (with_last list change)

abbrev Lawful : Table → PlainHistory → Type 0
Lawful table h = rows.AreLawful (table h.action) h.rows

lawful_with : (table : Table) (h : PlainHistory) (hs : List PlainHistory) → Lawful table h → AreLawful table hs → AreLawful table (with_history h hs)
lawful_with table h hs lawful all =
    let P : PlainHistory → Type 0 = Lawful table in
    let below = λ (other : PlainHistory). nat_lt other.action h.action in
    let above = λ (other : PlainHistory). nat_lt h.action other.action in
    All-append P (filter below hs) (h ∷ filter above hs) (All-filter below P hs all) (All-cons P h (filter above hs) lawful (All-filter above P hs all))

pub lawful_begun : LawfulChanges → (table : Table) (action : ℕ) (row : Row) (hs : List PlainHistory) → IsOwed (table action) (rows_at action hs) row.begun → AreLawful table hs → AreLawful table (with_begun action row hs)
lawful_begun law table action row hs owed all =
    lawful_with table (record { action = action; rows = rows_at action hs ++ row ∷ []; pending = true }) hs (law.begun (table action) (rows_at action hs) row (lawful_at law.none table action hs all) owed) all

pub lawful_ended : LawfulChanges → (table : Table) (action : ℕ) (moment : ℤ) (outcome : Outcome) (note : Note) (hs : List PlainHistory) → AreLawful table hs → AreLawful table (with_ended action moment outcome note hs)
lawful_ended law table action moment outcome note hs all =
    let change = λ (row : Row). record row { end = Some (moment, outcome); note = note } in
    lawful_with table (record { action = action; rows = with_last (rows_at action hs) change; pending = true }) hs
    (law.changed (table action) (rows_at action hs) change (λ row. refl) (lawful_at law.none table action hs all)) all

pub lawful_cleared : LawfulChanges → (table : Table) (action : ℕ) (moment : ℤ) (hs : List PlainHistory) → AreLawful table hs → AreLawful table (with_cleared action moment hs)
lawful_cleared law table action moment hs all =
    let P : PlainHistory → Type 0 = Lawful table in
    let change = λ (row : Row). record row { cleared = Some moment } in
    let mark = λ (h : PlainHistory). cond (eqb h.action action) (cleared moment h) h in
    All-map P mark hs (All-weaker P (λ h. P (mark h)) (λ h lawful. cond_both (eqb h.action action) (cleared moment h) h P (λ e. law.changed (table h.action) h.rows change (λ row. refl) lawful) (λ e. lawful)) hs all)

pub lawful_reported : (table : Table) (most : ℕ) (hs : List PlainHistory) → AreLawful table hs → AreLawful table (with_reported most hs)
lawful_reported table most [] all = all
lawful_reported table zero (h ∷ hs) all = all
lawful_reported table (suc most) (h ∷ hs) all =
    let P : PlainHistory → Type 0 = Lawful table in
    let first = All-head P h hs all in
    let rest = All-tail P h hs all in
    cond_both h.pending (record h { pending = false } ∷ with_reported most hs) (h ∷ with_reported (suc most) hs) (AreLawful table)
    (λ e. All-cons P (record h { pending = false }) (with_reported most hs) first (lawful_reported table most hs rest))
    (λ e. All-cons P h (with_reported (suc most) hs) first (lawful_reported table (suc most) hs rest))
