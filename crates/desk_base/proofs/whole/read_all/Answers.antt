use Rattle.std.proofs.Common.{◌++◌, length, take, ap, arith, length-append, length-take-le}
use Rattle.std.proofs.KnownBytes.{Consumes-trans}
use Rattle.desk_base.proofs.whole.read_all.Goals as goal

pub returns-then-count-limit-clause-whole : goal.returns-then-count-limit-clause-whole
returns-then-count-limit-clause-whole g c =
    let given = take c.in-Some.count c.read.new.room in
    let fits = length-take-le c.in-Some.count c.read.new.room c.in-Some.ensures.gives.1 in
    (c.loop-count.bytes ++ given, Consumes-trans _ _ _ _ _ c.loop-count.invariant.taken c.in-Some.ensures.gives.2, omega (arith, length-append c.loop-count.bytes given, fits, ap length c.as_slice.ensures))

pub returns-then-is_err-clause-whole : goal.returns-then-is_err-clause-whole
returns-then-is_err-clause-whole g c =
    let given = take c.in-Some.count c.read.new.room in
    let fits = length-take-le c.in-Some.count c.read.new.room c.in-Some.ensures.gives.1 in
    (c.loop-count.bytes ++ given, Consumes-trans _ _ _ _ _ c.loop-count.invariant.taken c.in-Some.ensures.gives.2, omega (arith, length-append c.loop-count.bytes given, fits, ap length c.as_slice.ensures))
