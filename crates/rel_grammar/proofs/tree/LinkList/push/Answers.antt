use Rattle.rel_grammar.proofs.Shown.{links-pushed}
use Rattle.rel_grammar.proofs.tree.LinkList.push.Goals as goal

pub returns : goal.returns
returns c = links-pushed c.args.self.now _ c.args.link c.in_ok-push.ensures.items
