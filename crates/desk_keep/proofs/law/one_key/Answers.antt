use Rattle.desk_keep.proofs.KeyOrder.{same_exact}
use Rattle.desk_keep.proofs.law.one_key.Goals as goal

pub returns : goal.returns
returns c = same_exact
