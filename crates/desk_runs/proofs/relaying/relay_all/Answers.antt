use Rattle.desk_runs.specs.RelaySteps.{relay_scene}
use Rattle.desk_runs.proofs.GrowingRelays.{relayed_first, relayed_more}
use Rattle.desk_runs.proofs.relaying.relay_all.Goals as goal

pub loop-init : goal.loop-init
loop-init g c =
    let before = relay_scene (g.D.Door.told c.args.door.now) c.args.relay.now (g.L.Link.told c.args.link.now) c.args.cache.now (g.W.Sink.told c.args.sink.now) in
    let after = relay_scene (g.D.Door.told c.args.door.now) c.make_round.new.relay (g.L.Link.told c.make_round.new.link) c.args.cache.now (g.W.Sink.told c.make_round.new.sink) in
    relayed_first before after tt (c.in_ok-make_round.ensures (g.D.Door.told c.args.door.now) c.args.cache.now)

pub loop-preserved : goal.loop-preserved
loop-preserved g c =
    let before = relay_scene (g.D.Door.told c.args.door.now) c.args.relay.now (g.L.Link.told c.args.link.now) c.args.cache.now (g.W.Sink.told c.args.sink.now) in
    let begun = relay_scene (g.D.Door.told c.loop.door) c.loop.relay (g.L.Link.told c.loop.link) c.loop.cache (g.W.Sink.told c.loop.sink) in
    let after = relay_scene (g.D.Door.told c.talk_and_round.new.door) c.talk_and_round.new.relay (g.L.Link.told c.talk_and_round.new.link) c.talk_and_round.new.cache (g.W.Sink.told c.talk_and_round.new.sink) in
    relayed_more c.loop.counter before begun after tt c.loop.invariant c.in_ok-talk_and_round.ensures
