use Rattle.rel_value.proofs.Shown.{list-pushed}
use Rattle.rel_value.proofs.value.Values.push.Goals as goal

pub returns-clause-ok : goal.returns-clause-ok
returns-clause-ok c = list-pushed c.args.self.now (record { items = c.push.new.self }) c.args.next c.in_ok-push.ensures.items
