use Rattle.std.proofs.Common.{rules, ◌≡◌, Option, Ok, Err, refl, subst}
use Rattle.relay_cache.specs.CachedFiles.{CacheState}
use Rattle.relay_core.specs.Relays.{RelayState, desk_queue, empty_relay}
use Rattle.desk_runs.specs.RelayRuns.{RelaysAll}
use Rattle.desk_top.specs.Relayed.{relay_at, relay_devices, with_upstream}
use Rattle.desk_top.proofs.RelayEndings.{relay_cut_ends}
use Rattle.desk_top.proofs.relayed.relay_with.Goals as goal

pub returns-in-Ok-clause-ends : goal.returns-in-Ok-clause-ends
returns-in-Ok-clause-ends g c =
    let opened = relay_devices (g.D.Door.told c.open-2.new.self) (g.L.Link.told c.open.new.self) (g.W.Sink.told c.args.sink.now) in
    let new = relay_devices (g.D.Door.told c.relay_all.new.door) (g.L.Link.told c.relay_all.new.link) (g.W.Sink.told c.relay_all.new.sink) in
    let link : g.L.Link.told c.open.new.self ≡ with_upstream c.args.asked.upstream.now (g.L.Link.told c.args.link.now) = search (c.open.ensures, c.is_err.ensures, c.if-is_err.false, rules) in
    let Relays : RelayState → Option CacheState → Type 0 = λ r k. RelaysAll (relay_at r k opened) c.args.asked.count (Ok tt) (relay_at c.relay_all.new.relay c.relay_all.new.cache new) in
    let from_empty = subst (λ r. Relays r c.args.cache.now) c.of_the_desk-relay.ensures c.in-Ok.ensures in
    (opened, c.relay_all.new.relay, c.relay_all.new.cache, record { link = link; door = c.in-Done.ensures; sink = refl }, subst (Relays (empty_relay desk_queue)) c.requires from_empty)

pub returns-clause-ends : goal.returns-clause-ends
returns-clause-ends g c =
    let old = relay_devices (g.D.Door.told c.args.door.now) (g.L.Link.told c.args.link.now) (g.W.Sink.told c.args.sink.now) in
    let opened = relay_devices (g.D.Door.told c.open-2.new.self) (g.L.Link.told c.open.new.self) (g.W.Sink.told c.args.sink.now) in
    let new = relay_devices (g.D.Door.told c.relay_all.new.door) (g.L.Link.told c.relay_all.new.link) (g.W.Sink.told c.relay_all.new.sink) in
    let link : g.L.Link.told c.open.new.self ≡ with_upstream c.args.asked.upstream.now (g.L.Link.told c.args.link.now) = search (c.open.ensures, c.is_err.ensures, c.if-is_err.false, rules) in
    let Relays : RelayState → Option CacheState → Type 0 = λ r k. RelaysAll (relay_at r k opened) c.args.asked.count (Err c.in-Err.stop) (relay_at c.relay_all.new.relay c.relay_all.new.cache new) in
    let from_empty = subst (λ r. Relays r c.args.cache.now) c.of_the_desk-relay.ensures c.in-Err.ensures in
    relay_cut_ends c.args.asked c.in-Err.stop c.of_stop.result old new (c.relay_all.new.sink ≡ c.args.sink.now) (c.relay_all.new.door ≡ c.args.door.now) c.of_stop.ensures
    (opened, c.relay_all.new.relay, c.relay_all.new.cache, record { link = link; door = c.in-Done.ensures; sink = refl }, subst (Relays (empty_relay desk_queue)) c.requires from_empty)
