use Rattle.std.proofs.Common.{[], drop}
use Rattle.std.specs.Prelude.{Ok}
use Rattle.script_run.specs.Fills.{FillsLines}
use Rattle.script_run.proofs.filling.lined.Given as goal

abbrev pub invariant-loop-template : goal.invariant-loop-template
invariant-loop-template g l =
    FillsLines l.kept.scene l.template-items (drop l.template-index l.template-items) [] (g.M.Machine.told l.fn.machine) (Ok tt) (g.M.Machine.told l.machine) l.text
