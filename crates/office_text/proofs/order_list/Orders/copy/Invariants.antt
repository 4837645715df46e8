use Rattle.std.proofs.Common.{◌≡◌, take}
use Rattle.office_text.proofs.order_list.Orders.copy.Given as goal

abbrev pub invariant-loop-order : goal.invariant-loop-order
invariant-loop-order l = l.copies.items ≡ take l.order-index l.order-items
