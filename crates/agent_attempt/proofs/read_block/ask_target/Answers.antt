use Rattle.std.proofs.Common.{refl}
use Rattle.agent_attempt.proofs.Rules.{targets_all, targets_where}
use Rattle.agent_attempt.proofs.read_block.ask_target.Goals as goal

pub returns-in-All : goal.returns-in-All
returns-in-All g c = targets_all _ _ c.args.target.now c.args.target.now _ refl c.in-All.is

pub returns-in-Where : goal.returns-in-Where
returns-in-Where g c = targets_where _ _ c.args.target.now c.args.target.now c.in-Where.field-0 c.args.clause.now _ _ _ refl c.in-Where.is c.requires c.ask_given.ensures
