use Rattle.std.proofs.Common.{◌%◌, ◌∙◌, arith}
use Rattle.rel_value.specs.Spellings.{shown_seconds}
use Rattle.rel_value.proofs.TimeReads.{laid, clock-back}
use Rattle.rel_value.proofs.time_read.clock_at.Goals as goal

pub returns-clause-value : goal.returns-clause-value
returns-clause-value c = λ moment offset hm ho e.
    let l = laid c.args.text.now moment offset hm ho e in
    clock-back c.two_at.result c.two_at-2.result c.two_at-3.result (shown_seconds moment offset % 86400) (omega arith) (c.two_at.ensures.value ∙ l.hour) (c.two_at-2.ensures.value ∙ l.minute) (c.two_at-3.ensures.value ∙ l.second)
