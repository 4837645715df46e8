use Rattle.std.proofs.Common.{◌≡◌, ◌-◌, ◌≤◌, ◌⊎◌, [], length}
use Rattle.std.specs.Io.KnownBytes.{Consumes}
use Rattle.httparse.specs.Grammar.{HasNoRequest}
use Rattle.desk_http.proofs.reading.read_head.Given as goal

-- what was taken is no head yet
abbrev pub invariant-heads : goal.invariant-heads
invariant-heads g l = record {
  taken : Consumes (g.D.Door.told l.fn.door).left (g.D.Door.told l.door).left l.buf;
  short : length l.buf ≤ 16384;
  none : (l.buf ≡ []) ⊎ HasNoRequest l.buf;
  ports : (g.D.Door.told l.door).ports ≡ (g.D.Door.told l.fn.door).ports;
  coming : (g.D.Door.told l.door).coming ≡ (g.D.Door.told l.fn.door).coming;
  written : (g.D.Door.told l.door).written ≡ (g.D.Door.told l.fn.door).written;
  ended : (g.D.Door.told l.door).ended ≡ (g.D.Door.told l.fn.door).ended;
  steady : (g.D.Door.told l.door).faults ≡ (g.D.Door.told l.fn.door).faults;
}

abbrev pub decreases-heads : goal.decreases-heads
decreases-heads g l = 16384 - length l.buf
