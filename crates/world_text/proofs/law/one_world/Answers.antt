use Rattle.world_text.proofs.StopLemmas.{describes_one}
use Rattle.world_text.proofs.law.one_world.Goals as goal

pub returns : goal.returns
returns c = describes_one
