use Rattle.std.proofs.Common.{◌∙◌, sym}
use Rattle.rel_grammar.proofs.Exact.{one_reading}
use Rattle.rel_grammar.proofs.laws.one_reading.Goals as goal

pub returns : goal.returns
returns c = λ ts p q e h. one_reading p q (sym e ∙ h)
