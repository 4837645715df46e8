use Rattle.std.proofs.Common.{ap, arith, length}
use Rattle.desk_http.proofs.Taking.{at_most_more, grew_length}
use Rattle.desk_http.proofs.reading.read_rest.Goals as goal

pub returns-in-Memory-clause-reads : goal.returns-in-Memory-clause-reads
returns-in-Memory-clause-reads g c =
    let grew = c.pieces.invariant.grew in
    let more = c.in-Memory.ensures.takes in
    let old = (g.D.Door.told c.args.door.now).left in
    let mid = (g.D.Door.told c.pieces.door).left in
    let size = grew_length old mid c.args.buf.now c.pieces.buf grew in
    at_most_more old mid (g.D.Door.told c.take.new.door).left grew.0 more.0 _ grew.1 more.1
    (omega (arith, more.3, size, ap length c.as_slice.ensures, ap length c.as_slice-in-pieces.ensures, c.pieces-test.true))
