use Rattle.std.proofs.Common.{refl}
use Rattle.act_rules.proofs.Counting.{stands_added, stands_ended}
use Rattle.act_rules.proofs.tally.Tally.end.Goals as goal

pub returns-clause-added : goal.returns-clause-added
returns-clause-added c = λ retries rows row moment is e stands.
    stands_added c.args.self.now c.add.new.self retries rows row _ (c.add.ensures row moment e) is.few e stands

pub returns-clause-ended : goal.returns-clause-ended
returns-clause-ended c = λ retries rows moment note is running stands.
    stands_ended c.args.self.now c.add.new.self retries rows _ (moment, c.args.outcome) (λ row e. c.add.ensures row moment e) is.few running (λ row. refl) stands
