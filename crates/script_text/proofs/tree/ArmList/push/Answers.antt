use Rattle.script_text.proofs.Shown.{arms-pushed}
use Rattle.script_text.proofs.tree.ArmList.push.Goals as goal

pub returns : goal.returns
returns c = arms-pushed c.args.self.now _ c.args.arm c.in_ok-push.ensures.items
