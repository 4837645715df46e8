use Rattle.std.proofs.Common.{length, ap, arith}
use Rattle.rel_lexer.proofs.Decoding.{no_percent, too_short, first_no_hex, second_no_hex, escaped}
use Rattle.rel_lexer.proofs.string.escape.Goals as goal

pub returns-then-first-ne37 : goal.returns-then-first-ne37
returns-then-first-ne37 c = no_percent c.args.first c.args.more.now c.if-first-ne37.true

pub returns-in_err-high : goal.returns-in_err-high
returns-in_err-high c = rw c.from_residual.ensures (too_short c.args.first c.args.more.now (let e = c.in_err-high.ensures.cases in omega arith))

pub returns-in_err-low : goal.returns-in_err-low
returns-in_err-low c = rw c.from_residual-in_err-low.ensures (too_short c.args.first c.args.more.now (let e = c.in_err-low.ensures.cases in let f = c.in_ok-high.ensures.cases in omega (arith, ap length f.0)))

pub returns-in_err-high-2 : goal.returns-in_err-high-2
returns-in_err-high-2 c = rw c.from_residual-in_err-high-2.ensures (first_no_hex c.args.first c.in_ok-high.high.now c.args.more.now c.in_ok-high.tail.now c.in_ok-high.ensures.cases.0 c.in_err-high-2.ensures)

pub returns-in_err-low-2 : goal.returns-in_err-low-2
returns-in_err-low-2 c = rw c.from_residual-in_err-low-2.ensures (second_no_hex c.args.first c.in_ok-high.high.now c.in_ok-low.low.now c.args.more.now c.in_ok-high.tail.now c.in_ok-low.tail.now c.in_ok-high.ensures.cases.0 c.in_ok-low.ensures.cases.0 c.in_err-low-2.ensures)

pub returns : goal.returns
returns c =
    let high = c.in_ok-high.ensures.cases in
    let low = c.in_ok-low.ensures.cases in
    let high_digit = c.in_ok-high-2.ensures in
    let low_digit = c.in_ok-low-2.ensures in
    (escaped c.args.first c.in_ok-high.high.now c.in_ok-low.low.now c.in_ok-high-2.high c.in_ok-low-2.low c.args.more.now c.in_ok-high.tail.now c.in_ok-low.tail.now c.if-first-ne37.false high.0 low.0 high_digit.0 low_digit.0 high_digit.1 low_digit.1, omega (arith, ap length high.0, ap length low.0))
