use Rattle.std.proofs.Common.{◌<◌}
use Rattle.host_tests.proofs.programs.exit_of.Given as goal

-- the program that is polled has been started
abbrev pub invariant-polls : goal.invariant-polls
invariant-polls g l = l.process.0 < (g.M.Machine.told l.machine).started
