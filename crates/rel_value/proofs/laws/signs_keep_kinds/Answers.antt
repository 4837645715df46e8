use Rattle.rel_value.proofs.KindLaws.{binary-kinds}
use Rattle.rel_value.proofs.laws.signs_keep_kinds.Goals as goal

pub returns-clause-binary : goal.returns-clause-binary
returns-clause-binary c = binary-kinds
