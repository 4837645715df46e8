use Rattle.std.proofs.Common.{◌<◌, length, arith}
use Rattle.std.proofs.lemmas.Bool.Decides.{nat_tests}
use Rattle.rel_value.proofs.Integers.{numeral-is}
use Rattle.rel_value.proofs.casts.is_numeral.Goals as goal

pub returns-then-not-is_empty : goal.returns-then-not-is_empty
returns-then-not-is_empty c =
    let e = c.is_empty.ensures in
    let some : 0 < length c.args.text.now = grind (arith, nat_tests, c.if-not-is_empty.true) in
    numeral-is c.args.text.now c.are_digits.result some c.are_digits.ensures
