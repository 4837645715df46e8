use Rattle.script_run.proofs.run.Run.supply.Goals as goal

pub returns-in-Wanting-clause-waits : goal.returns-in-Wanting-clause-waits
returns-in-Wanting-clause-waits c = λ started h. c.take.ensures.waits started
