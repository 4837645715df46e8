use Rattle.std.proofs.Common.{◌+◌, ◌<◌, ◌≤◌, List, ℕ, [], length, drop, sym, subst, arith}
use Rattle.std.specs.Prelude.{Ok}
use Rattle.std.proofs.lemmas.Result.{err_from_is_err_and}
use Rattle.script_run.specs.LineWalks.{lining}
use Rattle.script_run.specs.Fills.{FillsLines}
use Rattle.script_run.proofs.Preparing.{asks_none, asks_err, items_next, items_end, items_as}
use Rattle.script_run.proofs.filling.lined.Goals as goal

pub loop-template-init : goal.loop-template-init
loop-template-init g c =
    let items = c.as_slice-template-items.result.now in
    let v = g.M.Machine.told c.args.machine.now in
    let P : List ℕ → Type 0 = λ t. FillsLines c.args.kept.now.scene items items [] v (Ok tt) v t in
    subst P (sym c.in_ok-text.ensures) (asks_none c.args.kept.now.scene (λ line midway behind. lining line midway items [] behind) v tt)

pub loop-template-preserved : goal.loop-template-preserved
loop-template-preserved g c =
    let items = c.as_slice-template-items.result.now in
    let i = c.loop-template.template-index in
    let below : i < length items = omega arith in
    items_next c.args.kept.now.scene lining items items i c.template-item.result [] _ _ _ tt _ _ _ below c.template-item.is c.loop-template.invariant (c.in_ok-fill_line.ensures (drop (i + 1) items))

pub returns-in_err-fill_line : goal.returns-in_err-fill_line
returns-in_err-fill_line g c =
    let p = err_from_is_err_and c.from_residual-in_err-fill_line.result c.from_residual-in_err-fill_line.ensures.1 in
    let items = c.as_slice-template-items.result.now in
    let i = c.loop-template.template-index in
    let below : i < length items = omega arith in
    let h = items_next c.args.kept.now.scene lining items items i c.template-item.result [] _ _ _ tt _ _ _ below c.template-item.is c.loop-template.invariant (c.in_err-fill_line.ensures (drop (i + 1) items)) in
    items_as c.args.kept.now.scene lining c.args.templates.now items [] _ _ _ _ c.as_slice-template-items.ensures (asks_err _ _ _ _ _ _ _ _ p.1 p.2 h.fills h.only)

pub returns : goal.returns
returns g c =
    let items = c.as_slice-template-items.result.now in
    let end : length items ≤ c.loop-template.template-index = omega arith in
    let h = items_end c.args.kept.now.scene lining c.args.templates.now items c.loop-template.template-index [] _ _ _ tt c.as_slice-template-items.ensures end c.loop-template.invariant in
    record { fills = h.fills; only = h.only }
