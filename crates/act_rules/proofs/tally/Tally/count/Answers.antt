use Rattle.act_rules.proofs.Counting.{adds_ended}
use Rattle.act_rules.proofs.tally.Tally.count.Goals as goal

pub returns-in-Some : goal.returns-in-Some
returns-in-Some c = adds_ended c.args.self.now c.add.new.self c.args.row.now _ c.in-Some.is (c.add.ensures c.args.row.now c.in-Some.field-0-0 c.in-Some.is)
