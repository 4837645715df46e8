use Rattle.std.proofs.Common.{length}
use Rattle.agent_tests.proofs.played.one_step.Goals as goal

pub returns-in-Gather : goal.returns-in-Gather
returns-in-Gather c = record { waits = c.gather.ensures.waits (length c.args.machine.now.world.started) c.requires.waits }

pub returns-in-Settle : goal.returns-in-Settle
returns-in-Settle c = record { waits = c.settle.ensures.waits (length c.args.machine.now.world.started) c.requires.waits }

pub returns-in-Supply : goal.returns-in-Supply
returns-in-Supply c = record { waits = c.supply.ensures.waits (length c.args.machine.now.world.started) c.requires.waits }
