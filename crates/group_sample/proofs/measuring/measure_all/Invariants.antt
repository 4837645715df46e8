use Rattle.std.proofs.Common.{take}
use Rattle.std.specs.Prelude.{filter}
use Rattle.bf_machine.specs.Rises.{CountsFailed}
use Rattle.bf_machine.specs.Views.{OnlyLooks}
use Rattle.group_sample.specs.Due.{is_due}
use Rattle.group_sample.specs.Rows.{IsRowOf}
use Rattle.group_sample.specs.Samples.{Measures}
use Rattle.group_sample.proofs.measuring.measure_all.Given as goal

-- the properties so far that are due were measured
abbrev pub invariant-loop-property : goal.invariant-loop-property
invariant-loop-property g l = record {
  measures : Measures (IsRowOf (g.M.Machine.told l.fn.machine).world l.scene.moment l.scene.offset)
      (filter (is_due l.moments l.scene.moment) (take l.property-index l.properties)) l.measured.rows.items l.measured.failed;
  counts : CountsFailed l.measured.failed (g.M.Machine.told l.fn.machine).faults (g.M.Machine.told l.machine).faults;
  looks : OnlyLooks (g.M.Machine.told l.fn.machine) (g.M.Machine.told l.machine);
}
