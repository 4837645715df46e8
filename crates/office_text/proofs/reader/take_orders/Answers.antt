use Rattle.std.proofs.Common.{List, Option, Ok, subst, sym}
use Rattle.office_text.specs.declared.order.Order.{Order}
use Rattle.office_text.specs.OrderReadings.{HasOrders, TakesOrder, TakesOrders}
use Rattle.office_text.proofs.OfficeReading.{has_all, has_more}
use Rattle.office_text.proofs.PartLemmas.{in_text}
use Rattle.office_text.proofs.reader.take_orders.Goals as goal

pub loop-orders-preserved : goal.loop-orders-preserved
loop-orders-preserved c =
    let T : Option Order → Type 0 = λ o. TakesOrder c.loop-orders.orders c.loop-orders.lines c.take_order.new.lines (Ok o) in
    let H : List Order → Type 0 = HasOrders c.args.lines.now c.take_order.new.lines in
    let taken = subst T c.in-Some.is c.in_ok-order.ensures in
    record {
      taken = subst H (sym c.in_ok-orders.ensures) (has_more c.args.lines.now c.loop-orders.lines c.take_order.new.lines c.loop-orders.orders c.in-Some.order c.loop-orders.invariant.taken taken);
      there = in_text c.loop-orders.lines c.take_order.new.lines _ c.loop-orders.invariant.there taken.3;
    }

pub returns : goal.returns
returns c =
    let T : Option Order → Type 0 = λ o. TakesOrder c.loop-orders.orders c.loop-orders.lines c.take_order.new.lines (Ok o) in
    let P : List Order → Type 0 = λ l. TakesOrders c.args.lines.now c.take_order.new.lines (Ok l) in
    subst P (sym c.into_orders.ensures) (has_all c.args.lines.now c.loop-orders.lines c.take_order.new.lines c.loop-orders.orders c.loop-orders.invariant.taken (subst T c.in_default.is c.in_ok-order.ensures))
