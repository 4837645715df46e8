use Rattle.std.proofs.Common.{drop}
use Rattle.std.specs.Prelude.{Ok}
use Rattle.script_run.specs.Fills.{FillsParts}
use Rattle.script_run.proofs.filling.fill.Given as goal

abbrev pub invariant-loop-part : goal.invariant-loop-part
invariant-loop-part g l =
    FillsParts l.kept.scene l.part-items (drop l.part-index l.part-items) l.fn.out (g.M.Machine.told l.fn.machine) (Ok tt) (g.M.Machine.told l.machine) l.out
