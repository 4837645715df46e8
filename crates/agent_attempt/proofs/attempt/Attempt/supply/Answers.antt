use Rattle.agent_attempt.proofs.Stages.{staged_run}
use Rattle.agent_attempt.proofs.Supplying.{supplies_run, supplied_runs, supplied_waits, supplies_none}
use Rattle.agent_attempt.proofs.attempt.Attempt.supply.Goals as goal

pub invariant_of-self : goal.invariant_of-self
invariant_of-self c =
    let stood = staged_run c.self.inside.left.items c.self.inside.stage c.in-Running.run' c.in-Running.is c.self.invariant.stands in
    record {
      issued = c.self.invariant.issued;
      began = c.self.invariant.began;
      stands = supplied_runs c.in-Running.run' c.supply.new.self c.args.bytes c.supply.result stood c.supply.ensures.taken c.supply.ensures.other;
    }

pub returns-in-Running-clause-supplies : goal.returns-in-Running-clause-supplies
returns-in-Running-clause-supplies c =
    let stood = staged_run c.self.inside.left.items c.self.inside.stage c.in-Running.run' c.in-Running.is c.self.invariant.stands in
    supplies_run c.args.self.now _ c.in-Running.run' c.supply.new.self c.args.digest.now c.args.bytes c.supply.result c.self.view_is c.in-Running.is stood
    c.supply.ensures.wanted c.supply.ensures.taken c.supply.ensures.came c.supply.ensures.other

pub returns-clause-supplies : goal.returns-clause-supplies
returns-clause-supplies c = supplies_none c.args.self.now _ c.args.digest.now c.args.bytes c.self.view_is c.in_default.not-Running

pub returns-in-Running-clause-waits : goal.returns-in-Running-clause-waits
returns-in-Running-clause-waits c = supplied_waits c.args.self.now _ c.in-Running.run' c.supply.new.self c.self.view_is c.in-Running.is c.supply.ensures.waits
