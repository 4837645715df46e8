use Rattle.agent_core.proofs.KeptLawful.{Laws}
use Rattle.agent_core.proofs.OverCalls.{calls_lawful}
use Rattle.agent_core.proofs.law.stops_leave_rows_lawful.Goals as goal

pub returns : goal.returns
returns c = λ table calls s s2 saved saved2.
    let histories = c.changed_histories_can_be_saved.ensures in
    let rows = c.lawful_rows_stay_lawful.ensures in
    let law : Laws = record {
      histories = record { begun = histories.begun; ended = histories.ended; cleared = histories.cleared };
      rows = record { none = rows.none; begun = rows.begun; changed = rows.changed };
      one = c.one_saved.ensures;
      lines = c.lines_are_read_again.ensures.lines;
    } in
    calls_lawful law table calls s s2 saved saved2
