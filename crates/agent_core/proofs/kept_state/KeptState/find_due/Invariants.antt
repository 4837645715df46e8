use Rattle.std.proofs.Common.{drop}
use Rattle.agent_attempt.specs.ActionContents.{actions_of}
use Rattle.agent_core.specs.Inside.{state_of}
use Rattle.agent_core.specs.Steps.{FindsDue}
use Rattle.agent_core.proofs.Searching.{FindsOn, shown_actions}
use Rattle.agent_core.proofs.kept_state.KeptState.find_due.Given as goal

abbrev pub invariant-loop-place : goal.invariant-loop-place
invariant-loop-place g l = FindsOn
    (FindsDue l.time (state_of l.self) l.marked (shown_actions (drop l.place l.block-items)) (g.M.Machine.told l.machine))
    (FindsDue l.time (state_of l.self) l.marked (actions_of l.self.sites) (g.M.Machine.told l.fn.machine))
