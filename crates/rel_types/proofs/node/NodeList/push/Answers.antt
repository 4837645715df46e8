use Rattle.rel_types.proofs.NodeLists.{nodes-pushed}
use Rattle.rel_types.proofs.node.NodeList.push.Goals as goal

pub returns : goal.returns
returns c = nodes-pushed c.args.self.now _ c.args.node c.in_ok-push.ensures.items
