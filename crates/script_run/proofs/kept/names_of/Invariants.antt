use Rattle.std.proofs.Common.{take}
use Rattle.script_run.specs.Parameters.{Names}
use Rattle.script_run.proofs.kept.names_of.Given as goal

abbrev pub invariant-loop-pair : goal.invariant-loop-pair
invariant-loop-pair l = Names l.names (take l.pair-index l.pair-items)
