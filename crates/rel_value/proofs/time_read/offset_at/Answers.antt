use Rattle.std.proofs.Common.{◌+◌, ◌*◌, sym, ◌∙◌, arith}
use Rattle.rel_value.proofs.TimeReads.{laid, size-back, minus-back, plus-back}
use Rattle.std.proofs.Common.{unsigned_abs}
use Rattle.rel_value.proofs.time_read.offset_at.Goals as goal

pub returns-then-text-eq45-clause-value : goal.returns-then-text-eq45-clause-value
returns-then-text-eq45-clause-value c = λ moment offset hm ho e.
    let l = laid c.args.text.now moment offset hm ho e in
    let size = size-back c.two_at.result c.two_at-2.result (unsigned_abs offset) (c.two_at.ensures.value ∙ l.offset_hour) (c.two_at-2.ensures.value ∙ l.offset_minute) in
    minus-back (60 * c.two_at.result + c.two_at-2.result) offset size (omega (arith, c.two_at.ensures.bound, c.two_at-2.ensures.bound)) (sym l.sign ∙ c.if-text-eq45.true)

pub returns-else-text-eq45-clause-value : goal.returns-else-text-eq45-clause-value
returns-else-text-eq45-clause-value c = λ moment offset hm ho e.
    let l = laid c.args.text.now moment offset hm ho e in
    let size = size-back c.two_at.result c.two_at-2.result (unsigned_abs offset) (c.two_at.ensures.value ∙ l.offset_hour) (c.two_at-2.ensures.value ∙ l.offset_minute) in
    plus-back (60 * c.two_at.result + c.two_at-2.result) offset size (omega (arith, c.two_at.ensures.bound, c.two_at-2.ensures.bound)) (λ minus. c.if-text-eq45.false (l.sign ∙ minus))
