use Rattle.fix_site.proofs.Laws.{action_again}
use Rattle.fix_site.proofs.law.an_action_is_read_again.Goals as goal

pub returns : goal.returns
returns c = action_again c.lines_are_read_again.ensures.lines c.lines_are_read_again.ensures.unended
