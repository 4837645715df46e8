use Rattle.std.proofs.Common.{arith}
use Rattle.rel_grammar.proofs.EndsOfLists.{begins}
use Rattle.rel_grammar.proofs.spans.+begins.Goals as goal

pub parts_begin-returns-in-len1-up : goal.parts_begin-returns-in-len1-up
parts_begin-returns-in-len1-up t c = begins c.args.parts.now c.as_slice.result.now c.first-item.result c.begin_of.result c.as_slice.ensures.value (omega (arith, c.in-len1-up.len_at_least)) c.first-item.is c.begin_of.ensures
