use Rattle.rel_grammar.proofs.Exact.{one_depth}
use Rattle.rel_grammar.proofs.laws.one_depth.Goals as goal

pub returns : goal.returns
returns c = one_depth
