use Rattle.std.specs.Prelude.{Ok, Err}
use Rattle.office_play.proofs.Playing.{failed_so}
use Rattle.office_play.proofs.play.play_in.Goals as goal

pub returns-in-Ok : goal.returns-in-Ok
returns-in-Ok g c = record {
  writes = c.in-Ok.ensures.writes;
  counts = failed_so (Ok tt) (g.W.Sink.told c.args.sink.now).faults (g.W.Sink.told c.play_all.new.sink).faults c.in-Ok.ensures.counts;
}

pub returns-in-Err : goal.returns-in-Err
returns-in-Err g c = record {
  writes = c.in-Err.ensures.writes;
  counts = failed_so (Err c.in-Err.end) (g.W.Sink.told c.args.sink.now).faults (g.W.Sink.told c.play_all.new.sink).faults c.in-Err.ensures.counts;
}
