use Rattle.std.proofs.Common.{◌/◌, ◌+◌, ◌*◌, sym, ◌∙◌, arith}
use Rattle.rel_value.specs.Calendar.{date_after}
use Rattle.rel_value.specs.Spellings.{shown_seconds}
use Rattle.rel_value.proofs.Calendars.{date-bounded, dates-same}
use Rattle.rel_value.proofs.TimeReads.{laid, shown-small, year-back}
use Rattle.rel_value.proofs.time_read.days_at.Goals as goal

pub returns-clause-value : goal.returns-clause-value
returns-clause-value c = λ moment offset hm ho e.
    let l = laid c.args.text.now moment offset hm ho e in
    let days = shown_seconds moment offset / 86400 in
    let small = shown-small moment offset hm ho in
    let d = date_after days in
    let b = date-bounded days (omega arith) in
    let year = year-back c.two_at.result d.year c.two_at-2.result (c.two_at.ensures.value ∙ l.century) (c.two_at-2.ensures.value ∙ l.year) in
    let month = c.month_at.ensures.value d.month b.month_low b.month_high l.month in
    let day = c.two_at-3.ensures.value ∙ l.day in
    c.days_to.ensures.value days (omega arith) (sym (dates-same (100 * c.two_at.result + c.two_at-2.result) c.month_at.result c.two_at-3.result d year month day))
