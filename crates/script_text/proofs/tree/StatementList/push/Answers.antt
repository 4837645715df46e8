use Rattle.script_text.proofs.Shown.{statements-pushed}
use Rattle.script_text.proofs.tree.StatementList.push.Goals as goal

pub returns : goal.returns
returns c = statements-pushed c.args.self.now _ c.args.statement c.in_ok-push.ensures.items
