use Rattle.fix_site.proofs.Laws.{site_text_known}
use Rattle.fix_site.proofs.law.one_site.Goals as goal

pub returns : goal.returns
returns c = site_text_known c.lines_are_read_again.ensures.lines
