use Rattle.std.proofs.Common.{◌≡◌, length}
use Rattle.std.specs.Vec.Iter.{into_iter_items, into_iter_len}
use Rattle.office_play.specs.States.{kept_of}
use Rattle.office_play.proofs.Playing.{SoFar}
use Rattle.office_play.proofs.play.play_all.Given as goal

-- some orders were played, no write failed, and these are left
abbrev pub invariant-loop-order : goal.invariant-loop-order
invariant-loop-order g l =
    SoFar l.fn.orders l.yielded (into_iter_items l.order-iterator) (kept_of l.office) (g.W.Sink.told l.fn.sink).held (g.W.Sink.told l.sink).held
    × ((g.W.Sink.told l.sink).faults ≡ (g.W.Sink.told l.fn.sink).faults)
    × (into_iter_len l.order-iterator ≡ length (into_iter_items l.order-iterator))
