use Rattle.std.proofs.Common.{arith}
use Rattle.session_tables.proofs.machine.SessionMachineMachine.TheImpl.Goals as goal

-- no program has a number below none
pub poll-tells : goal.poll-tells
poll-tells g c = absurd (omega (arith, c.requires))
