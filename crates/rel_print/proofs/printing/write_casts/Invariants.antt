use Rattle.std.proofs.Common.{◌≡◌, drop}
use Rattle.rel_print.specs.Written.{written_casts}
use Rattle.rel_print.proofs.printing.write_casts.Given as goal

abbrev pub invariant-loop-cast : goal.invariant-loop-cast
invariant-loop-cast l = written_casts (drop l.cast-index l.cast-items) l.pen ≡ written_casts l.fn.casts l.fn.pen
