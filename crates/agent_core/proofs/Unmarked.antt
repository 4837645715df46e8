-- Turns in which nothing is marked.
use Rattle.std.proofs.Common.{ℕ, ◌≡◌, List, [], ◌∷◌, Bool, true, false, Ok, refl, sym, subst, arith}
use Rattle.std.specs.Prelude.{Contains}
use Rattle.fix_site.specs.declared.action.Action.{Action}
use Rattle.act_rules.specs.Rows.{last_row}
use Rattle.script_run.specs.Asking.{When}
use Rattle.bf_machine.specs.Views.{MachineView}
use Rattle.agent_text.specs.Histories.{PlainHistory, rows_at}
use Rattle.agent_state.specs.States.{State}
use Rattle.agent_core.specs.Steps.{MarksEach, TestsMark}
use Rattle.agent_core.specs.Marked.{Covers}
use Rattle.agent_core.specs.Turns.{may_clear}
use Rattle.agent_core.proofs.Searching.{marks_of}

-- where nothing covers them no last row may be marked
pub none_may : (hs : List PlainHistory) → Covers [] hs → (id : ℕ) → may_clear (last_row (rows_at id hs)) ≡ false
none_may hs covers id = by (may_clear (last_row (rows_at id hs))) (covers id)
  where
    by : (b : Bool) → (b ≡ true → Contains {X = ℕ} [] id) → b ≡ false
    by true has = absurd (omega (arith, (has refl).1))
    by false has = refl

-- the actions are tested without a look, and none is marked
pub unmarked_each : (at : When) (s : State) (actions : List Action) (hs : List PlainHistory) (v : MachineView) → ((id : ℕ) → may_clear (last_row (rows_at id hs)) ≡ false) → MarksEach at s actions (marks_of hs false) v (Ok false) hs v
unmarked_each at s [] hs v none = (refl, refl, refl)
unmarked_each at s (action ∷ actions) hs v none = (
  Ok false,
  v,
  subst (λ may. TestsMark may at s action v (Ok false) v) (sym (none action.id)) (refl, refl),
  unmarked_each at s actions hs v none,
)
