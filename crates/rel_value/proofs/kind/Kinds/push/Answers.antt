use Rattle.rel_value.proofs.Shown.{kinds-pushed}
use Rattle.rel_value.proofs.kind.Kinds.push.Goals as goal

pub returns-clause-ok : goal.returns-clause-ok
returns-clause-ok c = kinds-pushed c.args.self.now (record { items = c.push.new.self }) c.args.next c.in_ok-push.ensures.items
