use Rattle.std.proofs.Common.{drop, false}
use Rattle.agent_text.specs.Histories.{AreHistories}
use Rattle.agent_attempt.specs.ActionContents.{actions_of}
use Rattle.agent_core.specs.Inside.{state_of}
use Rattle.agent_core.specs.Marked.{UndoneSame}
use Rattle.agent_core.specs.Steps.{AreMarked, MarksEach}
use Rattle.agent_core.proofs.Searching.{MarksOn, marks_of, shown_actions}
use Rattle.agent_core.proofs.kept_state.KeptState.clear.Given as goal

abbrev pub invariant-loop-place : goal.invariant-loop-place
invariant-loop-place g l = record {
  marked : AreMarked l.fn.marked l.marked;
  good : AreHistories l.marked;
  undo : UndoneSame l.fn.marked l.marked;
  goes : MarksOn
      (MarksEach l.time (state_of l.self) (shown_actions (drop l.place l.block-items)) (marks_of l.marked l.any) (g.M.Machine.told l.machine))
      (MarksEach l.time (state_of l.self) (actions_of l.self.sites) (marks_of l.fn.marked false) (g.M.Machine.told l.fn.machine));
}
