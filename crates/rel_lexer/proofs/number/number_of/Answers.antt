use Rattle.std.proofs.Common.{arith}
use Rattle.rel_lexer.proofs.DigitLemmas.{too_large}
use Rattle.rel_lexer.proofs.number.number_of.Goals as goal

pub returns-then-number-digit : goal.returns-then-number-digit
returns-then-number-digit c = too_large c.args.digits.now c.loop-digit.number c.in-Some.digit.now c.loop-digit.rest.now c.in-Some.more.now c.loop-digit.invariant c.in-Some.ensures.cases.0 (let e = c.from-digit.ensures in omega arith)
