use Rattle.desk_serve.specs.ServeRuns.{HasServed}
use Rattle.desk_serve.proofs.run.serve.Given as goal

-- so many conversations were served
abbrev pub invariant-loop : goal.invariant-loop
invariant-loop g l = HasServed l.fn.server.limits
    (record { door = g.D.Door.told l.fn.door; keeper = g.K.Keeper.told l.fn.keeper; sink = g.W.Sink.told l.fn.sink }) l.counter
    (record { door = g.D.Door.told l.door; keeper = g.K.Keeper.told l.keeper; sink = g.W.Sink.told l.sink })
