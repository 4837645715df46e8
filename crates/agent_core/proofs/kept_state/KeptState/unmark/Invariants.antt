use Rattle.std.proofs.Common.{◌≡◌, length}
use Rattle.agent_core.specs.Marked.{undone}
use Rattle.agent_core.proofs.kept_state.KeptState.unmark.Given as goal

-- putting back what is left comes to what putting back all came to, and nothing else of the state changes
abbrev pub invariant-loop-last : goal.invariant-loop-last
invariant-loop-last l = record {
  rest : l.self ≡ record l.initial.self { histories = l.self.histories };
  undo : undone l.before.items l.self.histories ≡ undone l.initial.before.items l.initial.self.histories;
}

abbrev pub decreases-loop-last : goal.decreases-loop-last
decreases-loop-last l = length l.before.items
