use Rattle.rel_types.proofs.NodeLists.{links-pushed}
use Rattle.rel_types.proofs.node.Links.push.Goals as goal

pub returns : goal.returns
returns c = links-pushed c.args.self.now _ c.args.link c.in_ok-push.ensures.items
