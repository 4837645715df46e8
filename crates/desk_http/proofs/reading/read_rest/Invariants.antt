use Rattle.std.proofs.Common.{◌≡◌, ◌-◌, ◌≤◌, max, length}
use Rattle.desk_http.specs.Reading.{Grew}
use Rattle.desk_http.proofs.reading.read_rest.Given as goal

abbrev pub invariant-pieces : goal.invariant-pieces
invariant-pieces g l = record {
  grew : Grew (g.D.Door.told l.fn.door).left (g.D.Door.told l.door).left l.fn.buf l.buf;
  short : length l.buf ≤ max (length l.fn.buf) l.upto;
  ports : (g.D.Door.told l.door).ports ≡ (g.D.Door.told l.fn.door).ports;
  coming : (g.D.Door.told l.door).coming ≡ (g.D.Door.told l.fn.door).coming;
  written : (g.D.Door.told l.door).written ≡ (g.D.Door.told l.fn.door).written;
  ended : (g.D.Door.told l.door).ended ≡ (g.D.Door.told l.fn.door).ended;
  steady : (g.D.Door.told l.door).faults ≡ (g.D.Door.told l.fn.door).faults;
}

abbrev pub decreases-pieces : goal.decreases-pieces
decreases-pieces g l = l.upto - length l.buf
