use Rattle.world_text.proofs.Splitting.{one_split}
use Rattle.world_text.proofs.law.one_front.Goals as goal

pub returns : goal.returns
returns c = one_split
