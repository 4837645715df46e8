use Rattle.std.proofs.Common.{ap, arith, inl, length}
use Rattle.desk_http.proofs.Heads.{failed_head, none_after}
use Rattle.desk_http.proofs.Taking.{at_most_more}
use Rattle.desk_http.proofs.reading.read_head.Goals as goal

pub returns-in-Memory-clause-reads : goal.returns-in-Memory-clause-reads
returns-in-Memory-clause-reads g c =
    let i = c.heads.invariant in
    let more = c.in-Memory.ensures.takes in
    at_most_more (g.D.Door.told c.args.door.now).left (g.D.Door.told c.heads.door).left (g.D.Door.told c.take.new.door).left c.heads.buf more.0 16384 i.taken more.1
    (omega (arith, more.3, ap length c.as_slice-in-heads.ensures, i.short))

pub returns-clause-reads : goal.returns-clause-reads
returns-clause-reads g c =
    let i = c.heads.invariant in
    let long = ap length c.as_slice.ensures in
    (i.taken, omega (arith, c.heads-test.false, long), i.short, inl (none_after c.heads.buf i.none (omega (arith, c.heads-test.false, long))))

pub returns-in-Failed-clause-reads : goal.returns-in-Failed-clause-reads
returns-in-Failed-clause-reads g c =
    let i = c.heads.invariant in
    let kept = c.in-Failed.ensures.takes in
    failed_head (g.D.Door.told c.args.door.now).left (g.D.Door.told c.heads.door).left (g.D.Door.told c.take.new.door).left c.heads.buf c.take.new.buf i.taken i.none
    (omega (arith, c.heads-test.true, ap length c.as_slice.ensures)) kept.0 kept.1
