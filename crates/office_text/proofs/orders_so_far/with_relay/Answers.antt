use Rattle.std.proofs.Common.{sym, ap, subst, ◌∙◌}
use Rattle.bf_world.specs.Maps.{put}
use Rattle.office_text.specs.declared.order.Order.{Order}
use Rattle.office_text.specs.Known.{HasJust, IsIn, IsRelayOf}
use Rattle.office_text.proofs.KnownLemmas.{put_just}
use Rattle.office_text.proofs.orders_so_far.with_relay.Goals as goal

pub returns-in_ok-put-in-Relay : goal.returns-in_ok-put-in-Relay
returns-in_ok-put-in-Relay c =
    let P : Order → Type 0 = λ o. HasJust c.put.new.self (IsIn c.args.names (IsRelayOf o)) in
    let put_is = c.in_ok-put-in-Relay.ensures in
    subst P (sym c.in-Relay.is) (put_just c.in-Relay.name c.args.names c.put.new.self (put_is.ok ∙ ap (λ k. put k tt c.args.names) c.as_str.ensures))
