use Rattle.std.proofs.Common.{◌≡◌, false, take}
use Rattle.script_text.specs.Templates.{NoneEnds, in_literal}
use Rattle.script_text.proofs.expression.split_expression.Given as goal

abbrev pub invariant-loop-at : goal.invariant-loop-at
invariant-loop-at l = record {
  none : NoneEnds false (take l.at l.inner);
  state : l.in_literal ≡ in_literal false (take l.at l.inner);
}
