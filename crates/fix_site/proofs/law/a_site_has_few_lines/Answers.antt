use Rattle.fix_site.proofs.LineCounts.{few_lines}
use Rattle.fix_site.proofs.law.a_site_has_few_lines.Goals as goal

pub returns : goal.returns
returns c = λ text site reads. few_lines text site reads.0 reads.2
