use Rattle.group_text.proofs.GroupParts.{one_of_lines}
use Rattle.group_text.proofs.law.one_group.Goals as goal

pub returns : goal.returns
returns c = one_of_lines
