use Rattle.fix_site.proofs.Laws.{site_again}
use Rattle.fix_site.proofs.law.a_site_is_read_again.Goals as goal

pub returns : goal.returns
returns c = site_again c.lines_are_read_again.ensures.lines c.lines_are_read_again.ensures.unended
