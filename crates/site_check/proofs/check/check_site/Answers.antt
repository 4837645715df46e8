use Rattle.std.proofs.Common.{arith}
use Rattle.site_check.proofs.check.check_site.Goals as goal

pub returns-in-Err : goal.returns-in-Err
returns-in-Err c = c.unread.ensures c.args.text.now c.in-Err.ensures

pub refusal_of_site-requires-clause-lines : goal.refusal_of_site-requires-clause-lines
refusal_of_site-requires-clause-lines c = let few = c.a_site_has_few_lines.ensures c.args.text.now c.in-Ok.site c.in-Ok.ensures in omega arith
