use Rattle.world_text.proofs.HeadLemmas.{head_text_one}
use Rattle.world_text.proofs.law.one_head_text.Goals as goal

pub returns : goal.returns
returns c = head_text_one
