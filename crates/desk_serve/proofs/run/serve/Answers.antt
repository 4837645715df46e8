use Rattle.desk_serve.specs.ServeSteps.{Scene}
use Rattle.desk_serve.proofs.Serving.{served_more}
use Rattle.desk_serve.proofs.run.serve.Goals as goal

pub loop-preserved : goal.loop-preserved
loop-preserved g c =
    let before : Scene = record { door = g.D.Door.told c.args.door.now; keeper = g.K.Keeper.told c.args.keeper.now; sink = g.W.Sink.told c.args.sink.now } in
    let begun : Scene = record { door = g.D.Door.told c.loop.door; keeper = g.K.Keeper.told c.loop.keeper; sink = g.W.Sink.told c.loop.sink } in
    let after : Scene = record { door = g.D.Door.told c.serve_next.new.door; keeper = g.K.Keeper.told c.serve_next.new.keeper; sink = g.W.Sink.told c.serve_next.new.sink } in
    served_more c.args.server.now.limits c.loop.counter before begun after tt c.loop.invariant c.in_ok-serve_next.ensures
