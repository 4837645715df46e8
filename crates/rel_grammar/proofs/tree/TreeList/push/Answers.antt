use Rattle.rel_grammar.proofs.Shown.{parts-pushed}
use Rattle.rel_grammar.proofs.tree.TreeList.push.Goals as goal

pub returns : goal.returns
returns c = parts-pushed c.args.self.now _ c.args.tree c.in_ok-push.ensures.items
