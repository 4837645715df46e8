use Rattle.std.proofs.Common.{arith}
use Rattle.content_tests.proofs.sites.pieces_of_text.Goals as goal

pub pieces-requires-clause-lines : goal.pieces-requires-clause-lines
pieces-requires-clause-lines c = let few = c.a_site_has_few_lines.ensures c.args.text.now c.in-Ok.site c.in-Ok.ensures in omega arith
