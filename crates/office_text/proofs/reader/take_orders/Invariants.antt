use Rattle.std.proofs.Common.{length}
use Rattle.office_text.specs.OrderReadings.{HasOrders, IsInText}
use Rattle.office_text.proofs.reader.take_orders.Given as goal

-- the lines of the orders so far were taken
abbrev pub invariant-loop-orders : goal.invariant-loop-orders
invariant-loop-orders l = record {
  taken : HasOrders l.initial.lines l.lines l.orders;
  there : IsInText l.lines;
}

abbrev pub decreases-loop-orders : goal.decreases-loop-orders
decreases-loop-orders l = length l.lines.lines
