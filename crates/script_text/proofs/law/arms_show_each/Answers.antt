use Rattle.script_text.proofs.Shown.{arms-out}
use Rattle.script_text.proofs.law.arms_show_each.Goals as goal

pub returns : goal.returns
returns c = arms-out
