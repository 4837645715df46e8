use Rattle.std.proofs.Common.{refl}
use Rattle.office_text.specs.Made.{action_lines}
use Rattle.office_text.proofs.made.action_text.Goals as goal

pub returns : goal.returns
unfolding action_lines
returns c = refl
