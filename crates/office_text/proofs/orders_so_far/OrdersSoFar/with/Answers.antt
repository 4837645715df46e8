use Rattle.std.proofs.Common.{List, sym, subst}
use Rattle.office_text.specs.declared.order.Order.{Order}
use Rattle.office_text.specs.Known.{HasJust}
use Rattle.office_text.specs.Orders.{HasRelay, HasComputer}
use Rattle.office_text.proofs.KnownLemmas.{relays_more, computers_more}
use Rattle.office_text.proofs.orders_so_far.OrdersSoFar.with.Goals as goal

pub invariant_of-result : goal.invariant_of-result
invariant_of-result c =
    let P : List Order → Type 0 = λ l. HasJust c.in_ok-relays.relays (HasRelay l) in
    let Q : List Order → Type 0 = λ l. HasJust c.in_ok-computers.computers (HasComputer l) in
    record {
      relays = subst P (sym c.in_ok-push.ensures.items) (relays_more c.self.inside.orders.items c.args.order c.self.inside.relays c.in_ok-relays.relays c.self.invariant.relays c.in_ok-relays.ensures);
      computers = subst Q (sym c.in_ok-push.ensures.items) (computers_more c.self.inside.orders.items c.args.order c.self.inside.computers c.in_ok-computers.computers c.self.invariant.computers c.in_ok-computers.ensures);
    }
