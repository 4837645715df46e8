use Rattle.desk_runs.specs.RelayRuns.{HasRelayed}
use Rattle.desk_runs.specs.RelaySteps.{relay_scene}
use Rattle.desk_runs.proofs.relaying.relay_all.Given as goal

-- so many conversations were held, with a round before the first and one after each
abbrev pub invariant-loop : goal.invariant-loop
invariant-loop g l = HasRelayed
    (relay_scene (g.D.Door.told l.fn.door) l.fn.relay (g.L.Link.told l.fn.link) l.fn.cache (g.W.Sink.told l.fn.sink)) l.counter
    (relay_scene (g.D.Door.told l.door) l.relay (g.L.Link.told l.link) l.cache (g.W.Sink.told l.sink))
