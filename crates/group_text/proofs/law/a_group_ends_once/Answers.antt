use Rattle.group_text.proofs.Ends.{group_ends}
use Rattle.group_text.proofs.law.a_group_ends_once.Goals as goal

pub returns : goal.returns
returns c = group_ends
