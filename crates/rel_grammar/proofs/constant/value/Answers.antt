use Rattle.std.proofs.Common.{false}
use Rattle.rel_grammar.specs.Reads.{single_it}
use Rattle.rel_grammar.proofs.constant.value.Goals as goal

pub returns-in-Some : goal.returns-in-Some
returns-in-Some c = (single_it c.in-Some.place, c.in-Some.ensures false, c.it.ensures)
