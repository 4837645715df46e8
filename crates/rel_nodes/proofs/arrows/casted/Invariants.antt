use Rattle.std.proofs.Common.{take}
use Rattle.rel_nodes.specs.Core.{Alike, casted_core}
use Rattle.rel_nodes.specs.Nodes.{boxed_shape}
use Rattle.rel_nodes.specs.Runs.{run_core}
use Rattle.rel_nodes.proofs.arrows.casted.Given as goal

-- the casts so far
abbrev pub invariant-loop-step : goal.invariant-loop-step
invariant-loop-step l = Alike (run_core l.run) (casted_core (take l.step-index l.step-items) (boxed_shape l.fn.part))
