use Rattle.fix_site.proofs.Laws.{action_known}
use Rattle.fix_site.proofs.law.one_action.Goals as goal

pub returns : goal.returns
returns c = action_known c.lines_are_read_again.ensures.lines
