use Rattle.std.proofs.Common.{sym, subst, arith}
use Rattle.group_text.specs.Properties.{AreProperties}
use Rattle.group_tests.proofs.shown.Bench.take.Goals as goal

pub take-requires-clause-properties : goal.take-requires-clause-properties
take-requires-clause-properties c = record {
  few = omega (arith, c.if-properties-gt100.false);
  good = subst AreProperties (sym c.as_slice-properties.ensures) c.requires.properties;
}
