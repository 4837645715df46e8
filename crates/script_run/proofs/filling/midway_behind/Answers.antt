use Rattle.std.proofs.Common.{◌<◌, ◌≤◌, length, refl, arith}
use Rattle.script_run.proofs.Midway.{asked_here, plain_here, none_here}
use Rattle.script_run.proofs.filling.midway_behind.Goals as goal

pub loop-part-init : goal.loop-part-init
loop-part-init c = refl

pub returns-in-Expression : goal.returns-in-Expression
returns-in-Expression c =
    let items = c.as_slice-part-items.result.now in
    let i = c.loop-part.part-index in
    let below : i < length items = omega arith in
    asked_here c.args.midway c.args.template.now.parts items i c.part-item.result c.in-Expression.field-0 below c.part-item.is c.in-Expression.is c.as_slice-part-items.ensures c.loop-part.invariant

pub loop-part-preserved : goal.loop-part-preserved
loop-part-preserved c =
    let items = c.as_slice-part-items.result.now in
    let i = c.loop-part.part-index in
    let below : i < length items = omega arith in
    plain_here c.args.midway items i c.part-item.result below c.part-item.is c.in_default.not-Expression c.loop-part.invariant

pub returns : goal.returns
returns c =
    let items = c.as_slice-part-items.result.now in
    let end : length items ≤ c.loop-part.part-index = omega arith in
    none_here c.args.midway c.args.template.now.parts items c.loop-part.part-index end c.as_slice-part-items.ensures c.loop-part.invariant
