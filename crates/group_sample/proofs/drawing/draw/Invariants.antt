use Rattle.std.proofs.Common.{◌≡◌, ◌-◌, ◌≤◌, All, Some, length}
use Rattle.bf_world.specs.Worlds.{WorldState}
use Rattle.bf_machine.specs.Views.{OnlyLooks}
use Rattle.rel_eval.specs.Cursors.{cursor_rest}
use Rattle.rel_eval.specs.Cuts.{meaning}
use Rattle.rel_eval.specs.Questions.{plan_of}
use Rattle.group_sample.specs.Drawing.{drawn}
use Rattle.group_sample.specs.Rows.{most_values}
use Rattle.group_sample.proofs.Bringing.{GoesOn}
use Rattle.group_sample.proofs.drawing.draw.Given as goal

-- the texts so far are those of the first values, no look failed, and the cursor has what is left
abbrev pub invariant-value : goal.invariant-value
invariant-value g l = record {
  few : length l.texts.items ≤ most_values;
  short : All (λ text. length text ≤ 1024) l.texts.items;
  looks : OnlyLooks (g.M.Machine.told l.fn.machine) (g.M.Machine.told l.machine);
  steady : (g.M.Machine.told l.machine).faults ≡ (g.M.Machine.told l.fn.machine).faults;
  goes : (w : WorldState) → (g.M.Machine.told l.fn.machine).world ≡ Some w
      → GoesOn l.scene.offset (drawn l.scene.offset most_values (meaning w l.scene (plan_of l.question))) l.texts.items (cursor_rest w l.cursor);
}

abbrev pub decreases-value : goal.decreases-value
decreases-value g l = most_values - length l.texts.items
