use Rattle.std.proofs.Common.{◌+◌, ◌<◌, ◌≤◌, length, drop, arith}
use Rattle.std.proofs.lemmas.Result.{err_from_is_err_and}
use Rattle.script_run.specs.LineWalks.{filling}
use Rattle.script_run.proofs.Preparing.{asks_none, asks_err, items_next, items_end, items_as}
use Rattle.script_run.proofs.filling.fill.Goals as goal

pub loop-part-init : goal.loop-part-init
loop-part-init g c = asks_none c.args.kept.now.scene (λ line midway behind. filling line midway c.as_slice-part-items.result.now c.args.out.now behind) _ tt

pub loop-part-preserved : goal.loop-part-preserved
loop-part-preserved g c =
    let items = c.as_slice-part-items.result.now in
    let i = c.loop-part.part-index in
    let below : i < length items = omega arith in
    items_next c.args.kept.now.scene filling items items i c.part-item.result c.args.out.now _ _ _ tt _ _ _ below c.part-item.is c.loop-part.invariant (c.in_ok-fill_part.ensures (drop (i + 1) items))

pub returns-in_err-fill_part : goal.returns-in_err-fill_part
returns-in_err-fill_part g c =
    let p = err_from_is_err_and c.from_residual.result c.from_residual.ensures.1 in
    let items = c.as_slice-part-items.result.now in
    let i = c.loop-part.part-index in
    let below : i < length items = omega arith in
    let h = items_next c.args.kept.now.scene filling items items i c.part-item.result c.args.out.now _ _ _ tt _ _ _ below c.part-item.is c.loop-part.invariant (c.in_err-fill_part.ensures (drop (i + 1) items)) in
    items_as c.args.kept.now.scene filling c.args.template.now.parts items c.args.out.now _ _ _ _ c.as_slice-part-items.ensures (asks_err _ _ _ _ _ _ _ _ p.1 p.2 h.fills h.only)

pub returns : goal.returns
returns g c =
    let items = c.as_slice-part-items.result.now in
    let end : length items ≤ c.loop-part.part-index = omega arith in
    items_end c.args.kept.now.scene filling c.args.template.now.parts items c.loop-part.part-index c.args.out.now _ _ _ tt c.as_slice-part-items.ensures end c.loop-part.invariant
