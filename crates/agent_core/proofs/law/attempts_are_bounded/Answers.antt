use Rattle.agent_text.specs.Histories.{rows_at}
use Rattle.agent_core.proofs.LawfulRows.{lawful_at}
use Rattle.agent_core.proofs.OverCalls.{begins_lawful}
use Rattle.agent_core.proofs.law.attempts_are_bounded.Goals as goal

pub returns-clause-lawful : goal.returns-clause-lawful
returns-clause-lawful c = λ table s action lawful sound.
    c.lawful_rows.ensures (table action) (rows_at action s.histories) (lawful_at c.lawful_rows_stay_lawful.ensures.none table action s.histories lawful)

pub returns-clause-calls : goal.returns-clause-calls
returns-clause-calls c = λ table calls computer s saved action name good done.
    let lawful = begins_lawful c.stops_leave_rows_lawful.ensures table calls computer s saved name good done in
    c.lawful_rows.ensures (table action) (rows_at action s.histories) (lawful_at c.lawful_rows_stay_lawful.ensures.none table action s.histories lawful)
