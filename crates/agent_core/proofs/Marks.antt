-- Marks: what may be marked, and that marks are all that they change.
use Rattle.std.proofs.Common.{ℕ, ◌≡◌, ℤ, List, [], ◌∷◌, Bool, true, false, cond, map, refl, ap, eqb, Some, None, Ok, ◌&&◌}
use Rattle.std.specs.declared.option.Option.{Option}
use Rattle.std.specs.Prelude.{is_none, is_some, IsSome, IsSomeAnd}
use Rattle.act_rules.specs.declared.row.Row.{Row}
use Rattle.act_rules.specs.Rows.{HasEnded, with_last}
use Rattle.fix_site.specs.declared.action.Action.{Action}
use Rattle.script_run.specs.Asking.{When}
use Rattle.bf_machine.specs.Views.{MachineView}
use Rattle.agent_text.specs.Histories.{PlainHistory, cleared, with_cleared}
use Rattle.agent_state.specs.States.{State}
use Rattle.agent_core.specs.Steps.{AreMarked, TestsMark, unmarked, unmarked_row}
use Rattle.agent_core.specs.Turns.{may_clear}

-- ---- a mark
last_unmarked : (moment : ℤ) (rows : List Row) → map unmarked_row (with_last rows (λ row. record row { cleared = Some moment })) ≡ map unmarked_row rows
last_unmarked moment [] = refl
last_unmarked moment (row ∷ []) = refl
last_unmarked moment (row ∷ next ∷ rows) = ap (λ l. unmarked_row row ∷ l) (last_unmarked moment (next ∷ rows))

pub cleared_marked : (action : ℕ) (moment : ℤ) (hs : List PlainHistory) → AreMarked hs (with_cleared action moment hs)
cleared_marked action moment [] = refl
cleared_marked action moment (h ∷ hs) = by_id (eqb h.action action) (cleared_marked action moment hs)
  where
    by_id : (b : Bool) → map unmarked (with_cleared action moment hs) ≡ map unmarked hs → unmarked (cond b (cleared moment h) h) ∷ map unmarked (with_cleared action moment hs) ≡ unmarked h ∷ map unmarked hs
    by_id true e = λ j. record h { rows = last_unmarked moment h.rows j } ∷ e j
    by_id false e = ap (λ l. unmarked h ∷ l) e

-- ---- a last row that is to be marked
may_mark : {X Y : Type 0} (end : Option X) (mark : Option Y) → (is_some end && is_none mark) ≡ true → IsSome end × (mark ≡ None)
may_mark None mark e = absurd (cc)
may_mark (Some x) None e = (refl, refl)
may_mark (Some x) (Some y) e = absurd (cc)

pub may_ended : (o : Option Row) → may_clear o ≡ true → IsSomeAnd o HasEnded
may_ended None e = absurd (cc)
may_ended (Some row) e = (may_mark row.end row.cleared e).0

pub may_unmarked : (o : Option Row) → may_clear o ≡ true → IsSomeAnd o (λ row. row.cleared ≡ None)
may_unmarked None e = absurd (cc)
may_unmarked (Some row) e = (may_mark row.end row.cleared e).1

pub tested_true : (may : Bool) (at : When) (s : State) (action : Action) (mark : Bool) (old new : MachineView) → mark ≡ true → TestsMark may at s action old (Ok mark) new → may ≡ true
tested_true true at s action mark old new on h = refl
tested_true false at s action mark old new on h = let e = h.0 in absurd (cc)
