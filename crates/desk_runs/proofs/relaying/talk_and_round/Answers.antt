use Rattle.desk_runs.specs.RelaySteps.{relay_scene}
use Rattle.desk_runs.proofs.GrowingRelays.{goes_next}
use Rattle.desk_runs.proofs.relaying.talk_and_round.Goals as goal

pub returns : goal.returns
returns g c =
    let before = relay_scene (g.D.Door.told c.args.door.now) c.args.relay.now (g.L.Link.told c.args.link.now) c.args.cache.now (g.W.Sink.told c.args.sink.now) in
    let mid = relay_scene (g.D.Door.told c.answer_next.new.door) c.answer_next.new.relay (g.L.Link.told c.answer_next.new.link) c.answer_next.new.cache (g.W.Sink.told c.answer_next.new.sink) in
    let after = relay_scene (g.D.Door.told c.answer_next.new.door) c.make_round.new.relay (g.L.Link.told c.make_round.new.link) c.answer_next.new.cache (g.W.Sink.told c.make_round.new.sink) in
    goes_next before mid after c.make_round.result c.in_ok-answer_next.ensures.0 c.in_ok-answer_next.ensures.1 (c.make_round.ensures (g.D.Door.told c.answer_next.new.door) c.answer_next.new.cache)
