use Rattle.std.proofs.Common.{◌≡◌, All, take, true}
use Rattle.std.specs.Prelude.{Contains}
use Rattle.act_rules.specs.Rows.{last_row}
use Rattle.agent_text.specs.declared.history.History.{History}
use Rattle.agent_text.specs.Befores.{before_of}
use Rattle.agent_core.proofs.PuttingBack.{ids_of}
use Rattle.agent_core.specs.Turns.{may_clear}
use Rattle.agent_core.proofs.kept_state.KeptState.before_marks.Given as goal

-- each stands among the histories, and there is one of each history so far that may be marked
abbrev pub invariant-loop-history : goal.invariant-loop-history
invariant-loop-history l = record {
  stand : All (λ b. b ≡ before_of b.action l.self.histories) l.before.items;
  covered : All (λ (h : History). may_clear (last_row h.rows.rows) ≡ true → Contains (ids_of l.before.items) h.action) (take l.history-index l.history-items);
}
