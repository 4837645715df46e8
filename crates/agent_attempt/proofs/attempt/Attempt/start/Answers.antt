use Rattle.std.proofs.Common.{[], arith}
use Rattle.agent_attempt.specs.declared.attempt.Stage.TheVariants as stage
use Rattle.agent_attempt.specs.Attempts.{issue_date, starting}
use Rattle.agent_attempt.specs.Stages.{shown_attempt}
use Rattle.agent_attempt.proofs.Runs.{walk_waits}
use Rattle.agent_attempt.proofs.Stepping.{first_of, leaves_later, leaves_there}
use Rattle.agent_attempt.proofs.Stages.{start_runs, start_stays}
use Rattle.agent_attempt.proofs.attempt.Attempt.start.Goals as goal

pub returns-in-Ok : goal.returns-in-Ok
returns-in-Ok c = λ at machine.
    let s = c.args.self.now in
    let p = first_of s.left c.requires.some in
    let o = c.in-Ok.ensures.opens p.0 p.1 p.2 in
    record {
      steps = start_runs at s _ p.0 p.1 o.0 c.in-Ok.run' machine c.self.view_is p.2 c.in-Ok.ensures.wanted o.1 o.2;
      waits = walk_waits machine.started c.in-Ok.run' (c.in-Ok.ensures.waits machine.started);
      leaves = leaves_later starting s _ (stage.Running c.in-Ok.run') c.self.view_is (omega arith);
    }

pub returns-in-Err : goal.returns-in-Err
returns-in-Err c = λ at machine.
    let s = c.args.self.now in
    let p = first_of s.left c.requires.some in
    record { steps = start_stays at s _ p.0 p.1 machine c.self.view_is p.2; waits = tt; leaves = leaves_there starting s _ stage.Starting _ c.self.view_is }

pub invariant_of-self : goal.invariant_of-self
invariant_of-self c =
    let p = first_of c.args.self.now.left c.requires.some in
    let o = c.in-Ok.ensures.opens p.0 p.1 p.2 in
    record { issued = c.self.invariant.issued; began = c.self.invariant.began; stands = (o.0, issue_date (shown_attempt c.args.self.now), [], o.2) }
