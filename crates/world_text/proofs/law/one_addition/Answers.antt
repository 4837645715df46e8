use Rattle.world_text.proofs.OneRow.{adds_one}
use Rattle.world_text.proofs.law.one_addition.Goals as goal

pub returns : goal.returns
returns c = λ d a b line. adds_one d line a b
