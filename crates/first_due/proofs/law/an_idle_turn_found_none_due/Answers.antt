use Rattle.std.proofs.Common.{refl}
use Rattle.agent_core.specs.declared.turned.Turned.TheVariants.{Idle}
use Rattle.first_due.proofs.Beginning.{turn_promises}
use Rattle.first_due.proofs.law.an_idle_turn_found_none_due.Goals as goal

pub returns : goal.returns
returns c at s s2 d d2 sound turn = (turn_promises at s d Idle s2 d2 sound turn).idle refl
