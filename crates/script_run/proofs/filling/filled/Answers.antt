use Rattle.std.proofs.Common.{List, [], ℕ, subst}
use Rattle.std.specs.Prelude.{Ok}
use Rattle.script_run.specs.Fills.{FillsParts}
use Rattle.script_run.proofs.filling.filled.Goals as goal

pub returns : goal.returns
returns g c =
    let P : List ℕ → Type 0 = λ t. FillsParts c.args.kept.now.scene c.args.template.now.parts [] t (g.M.Machine.told c.args.machine.now) (Ok tt) (g.M.Machine.told c.fill.new.machine) c.fill.new.out in
    let h = subst P c.in_ok-text.ensures c.in_ok-fill.ensures in
    record { fills = h.fills; only = h.only }
