use Rattle.group_core.proofs.OneList.{one_list}
use Rattle.group_core.proofs.law.one_list_of_members.Goals as goal

pub returns : goal.returns
returns c = one_list
