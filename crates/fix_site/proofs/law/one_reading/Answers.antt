use Rattle.fix_site.proofs.OneReading.{one_reading}
use Rattle.fix_site.proofs.law.one_reading.Goals as goal

pub returns : goal.returns
returns c = one_reading c.lines_are_read_again.ensures.lines c.lines_are_read_again.ensures.unended
