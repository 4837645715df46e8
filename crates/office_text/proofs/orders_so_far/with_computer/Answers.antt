use Rattle.std.proofs.Common.{sym, ap, subst, ◌∙◌}
use Rattle.bf_world.specs.Maps.{put}
use Rattle.office_text.specs.declared.order.Order.{Order}
use Rattle.office_text.specs.Known.{HasJust, IsIn, IsComputerOf}
use Rattle.office_text.proofs.KnownLemmas.{put_just}
use Rattle.office_text.proofs.orders_so_far.with_computer.Goals as goal

pub returns-in_ok-put-in-Computer : goal.returns-in_ok-put-in-Computer
returns-in_ok-put-in-Computer c =
    let P : Order → Type 0 = λ o. HasJust c.put.new.self (IsIn c.args.names (IsComputerOf o)) in
    let put_is = c.in_ok-put-in-Computer.ensures in
    subst P (sym c.in-Computer.is) (put_just c.in-Computer.name c.args.names c.put.new.self (put_is.ok ∙ ap (λ k. put k tt c.args.names) c.as_str.ensures))
