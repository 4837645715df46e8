use Rattle.std.proofs.Common.{Option}
use Rattle.bf_machine.specs.Views.{MachineView}
use Rattle.agent_attempt.specs.declared.went.Went.{Went}
use Rattle.agent_attempt.specs.Attempts.{PlainAttempt, StageWaitsBelow}
use Rattle.agent_attempt.specs.Going.{GoesOn, SameAttempt}
use Rattle.agent_attempt.specs.Stages.{shown_attempt, shown_stage}
use Rattle.agent_attempt.specs.AttemptSteps.{weight_of}
use Rattle.agent_attempt.proofs.attempt.Attempt.go_on.Given as goal

abbrev pub invariant-steps : goal.invariant-steps
invariant-steps g l = record {
  waits : StageWaitsBelow (g.M.Machine.told l.machine).started (shown_stage l.self.stage);
  same : SameAttempt (shown_attempt l.fn.self) (shown_attempt l.self);
  goes : (answer : Went) (later : MachineView) (after : Option PlainAttempt)
      → GoesOn l.time (shown_attempt l.self)
      (g.M.Machine.told l.machine) answer later after
      → GoesOn l.time (shown_attempt l.fn.self)
      (g.M.Machine.told l.fn.machine) answer later after;
}

abbrev pub decreases-steps : goal.decreases-steps
decreases-steps g l = weight_of (shown_attempt l.self)
