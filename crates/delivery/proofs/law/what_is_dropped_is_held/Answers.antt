use Rattle.delivery.proofs.Reaching.{schedule_delivers}
use Rattle.delivery.proofs.law.what_is_dropped_is_held.Goals as goal

pub returns : goal.returns
returns c = λ given steps is.
    schedule_delivers given.limits c.a_report_is_read_again.ensures.short c.a_report_is_kept_by_its_number.ensures
    (λ accepted report. c.a_reply_says_what_is_held.ensures.held accepted given.limits report)
    (λ accepted report. c.a_reply_says_what_is_held.ensures.another accepted given.limits report) given steps is
