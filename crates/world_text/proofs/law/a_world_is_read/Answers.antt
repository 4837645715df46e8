use Rattle.world_text.proofs.PassLemmas.{world_read}
use Rattle.world_text.proofs.law.a_world_is_read.Goals as goal

pub returns : goal.returns
returns c = world_read
