use Rattle.std.proofs.Common.{arith}
use Rattle.content_tests.proofs.findings.refused_line.Goals as goal

pub refusal_of_site-requires-clause-lines : goal.refusal_of_site-requires-clause-lines
refusal_of_site-requires-clause-lines c = let few = c.a_site_has_few_lines.ensures c.args.text.now c.in-Ok.site c.in-Ok.ensures in omega arith
