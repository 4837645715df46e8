use Rattle.script_text.proofs.Shown.{statements-out}
use Rattle.script_text.proofs.law.statements_show_each.Goals as goal

pub returns : goal.returns
returns c = statements-out
